use Rattle.std.proofs.Common.{◌≡◌, ◌≤◌, ℕ, [], ◌∷◌, Some, refl, sym, subst, ap, ◌∙◌}
use Rattle.cbm.specs.Masks.{ways_of}
use Rattle.machine.specs.Maps.{bytes_of}
use Rattle.pseudo_lock.specs.Lines.{line_at}
use Rattle.rc_base.specs.declared.replies.Why.TheVariants.{NoSuchPath, PastRegion}
use Rattle.script_ops.specs.declared.op.Op.TheVariants.{DropRegion}
use Rattle.tree_core.proofs.Commands.{Takes-quiet, Takes-refused}
use Rattle.tree_core.proofs.RegionDrops.{after-drop, refusal-none, refusal-nowhere, refusal-past}
use Rattle.tree_core.proofs.Touches.{line_at-some}
use Rattle.tree_core.specs.Values.{TreeValue}
use Rattle.tree_law.specs.Refusals.{plain, reply_of}
use Rattle.tree_law.specs.commands.Touch.{touched}
use Rattle.tree_law.specs.declared.follow.Follow.TheVariants as follows
use Rattle.tree_core.proofs.tree.Tree.drop_region.Goals as goal

pub returns-in_default : goal.returns-in_default
returns-in_default c = λ looks.
    let v = c.args.self.now in let path = c.args.path in let offset = c.args.offset in
    Takes-refused (DropRegion path offset) looks v (plain NoSuchPath) (refusal-nowhere v.machine v.state path offset (sym c.in_default.ensures.region)) refl c.refused.ensures c.requires.nothing

pub returns-in_default-line_at : goal.returns-in_default-line_at
returns-in_default-line_at c = λ looks.
    let v = c.args.self.now in let path = c.args.path in let offset = c.args.offset in
    let r = c.in-Some.region in
    let past : bytes_of v.machine (ways_of r.mask) ≤ offset = subst (λ (w : TreeValue). bytes_of w.machine (ways_of r.mask) ≤ offset) c.self.view_is (c.in_default-line_at.ensures.past.0 refl) in
    Takes-refused (DropRegion path offset) looks v (plain PastRegion) (refusal-past v.machine v.state path offset r (sym c.in-Some.ensures.region) past) refl c.refused-in_default-line_at.ensures c.requires.nothing

pub returns : goal.returns
returns c = λ looks.
    let v = c.args.self.now in let path = c.args.path in let offset = c.args.offset in
    let r = c.in-Some.region in
    let is : touched v.state path ≡ Some (r.domain, r) = sym c.in-Some.ensures.region in
    let line : Some c.in-Some-line_at.line ≡ line_at v.machine r offset = c.in-Some-line_at.ensures.line ∙ ap (λ (w : TreeValue). line_at w.machine r offset) c.self.view_is in
    let found = line_at-some v.machine r offset c.in-Some-line_at.line line in
    Takes-quiet (DropRegion path offset) looks v refl (sym (ap reply_of (refusal-none v.machine v.state path offset r is found.0)))
    (λ k is_next. c.push_only.ensures.only ∙ ap (λ (n : ℕ). follows.Drop r.domain n ∷ []) found.1 ∙ sym (after-drop v.machine v.state path offset r is found.0 k))
