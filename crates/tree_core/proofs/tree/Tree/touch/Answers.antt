use Rattle.std.proofs.Common.{◌≡◌, ◌+◌, ◌≤◌, ℕ, Bool, true, false, eqb, [], ◌∷◌, Some, refl, sym, subst, ap, ap₂, ◌∙◌}
use Rattle.std.proofs.lemmas.Bool.{eq-eqb, eqb-true}
use Rattle.cbm.specs.Masks.{ways_of}
use Rattle.machine.specs.Maps.{bytes_of, domain_of}
use Rattle.pseudo_lock.specs.Lines.{line_at}
use Rattle.rc_base.specs.declared.names.Tag.{Tag}
use Rattle.rc_base.specs.declared.replies.Why.TheVariants.{NoSuchPath, PastRegion, WrongCpu}
use Rattle.script_ops.specs.declared.op.Op.TheVariants.{Touch}
use Rattle.tree_core.proofs.Commands.{Takes-quiet, Takes-refused}
use Rattle.tree_core.proofs.Touches as touches
use Rattle.tree_core.specs.Values.{TreeValue}
use Rattle.tree_law.specs.Refusals.{plain, reply_of}
use Rattle.tree_law.specs.Resolving.{resolve}
use Rattle.tree_law.specs.commands.Touch.{touched}
use Rattle.tree_law.specs.declared.follow.Follow.TheVariants as follows
use Rattle.tree_core.proofs.tree.Tree.touch.Goals as goal

-- a CPU is not at a domain and elsewhere
no_cpu : (b : Bool) → b ≡ true → b ≡ false → ⊥
no_cpu b is isnt = let f : true ≡ false = sym is ∙ isnt in cc

pub returns-in_default : goal.returns-in_default
returns-in_default c = λ looks.
    let v = c.args.self.now in let path = c.args.path in let offset = c.args.offset in let task = c.args.task in let cpu = c.args.cpu in
    Takes-refused (Touch cpu path task offset) looks v (plain NoSuchPath) (touches.refusal-nowhere v.machine v.state path offset task cpu (sym c.in_default.ensures.region)) refl c.refused.ensures c.requires.nothing

pub returns-in_default-line_at : goal.returns-in_default-line_at
returns-in_default-line_at c = λ looks.
    let v = c.args.self.now in let path = c.args.path in let offset = c.args.offset in let task = c.args.task in let cpu = c.args.cpu in
    let r = c.in-Some.region in
    let past : bytes_of v.machine (ways_of r.mask) ≤ offset = subst (λ (w : TreeValue). bytes_of w.machine (ways_of r.mask) ≤ offset) c.self.view_is (c.in_default-line_at.ensures.past.0 refl) in
    Takes-refused (Touch cpu path task offset) looks v (plain PastRegion) (touches.refusal-past v.machine v.state path offset task cpu r (sym c.in-Some.ensures.region) past) refl c.refused-in_default-line_at.ensures c.requires.nothing

pub returns-then-not-is_at : goal.returns-then-not-is_at
returns-then-not-is_at c = λ looks.
    let v = c.args.self.now in let m = v.machine in let path = c.args.path in let offset = c.args.offset in let task = c.args.task in let cpu = c.args.cpu in
    let r = c.in-Some.region in
    let line : Some c.in-Some-line_at.line ≡ line_at m r offset = c.in-Some-line_at.ensures.line ∙ ap (λ (w : TreeValue). line_at w.machine r offset) c.self.view_is in
    let found = touches.line_at-some m r offset c.in-Some-line_at.line line in
    let against = touches.refusal-cpu m v.state path offset task cpu r (sym c.in-Some.ensures.region) found.0 (λ e. no_cpu (eqb (domain_of m cpu) r.domain) (eq-eqb (domain_of m cpu) r.domain e) (sym c.is_at.ensures ∙ c.if-not-is_at.true)) in
    Takes-refused (Touch cpu path task offset) looks v (plain WrongCpu) against refl c.refused-then-not-is_at.ensures c.requires.nothing

pub returns : goal.returns
returns c = λ looks.
    let v = c.args.self.now in let m = v.machine in let s = v.state in let path = c.args.path in let offset = c.args.offset in let task = c.args.task in let cpu = c.args.cpu in
    let r = c.in-Some.region in
    let is : touched s path ≡ Some (r.domain, r) = sym c.in-Some.ensures.region in
    let line : Some c.in-Some-line_at.line ≡ line_at m r offset = c.in-Some-line_at.ensures.line ∙ ap (λ (w : TreeValue). line_at w.machine r offset) c.self.view_is in
    let found = touches.line_at-some m r offset c.in-Some-line_at.line line in
    let here : domain_of m cpu ≡ r.domain = eqb-true (domain_of m cpu) r.domain (sym c.is_at.ensures ∙ c.if-not-is_at.false) in
    let tag = c.resolve-tag.ensures in
    Takes-quiet (Touch cpu path task offset) looks v refl (sym (ap reply_of (touches.refusal-none m s path offset task cpu r is found.0 here)))
    (λ k is_next. c.push_only.ensures.only
    ∙ ap₂ (λ (x : Tag) (n : ℕ). follows.Touch x n ∷ []) (touches.tag_of-parts c.resolve-tag.result (resolve m s task cpu) (domain_of m cpu) (k + 1) (tag.epoch ∙ sym is_next) tag.owner tag.class tag.rmid tag.mask tag.domain) found.1
    ∙ sym (touches.after-touch m s path offset task cpu r is found.0 here k))
