use Rattle.std.proofs.Common.{◌≡◌, [], Ok, Err, refl, sym, subst, ap, ◌∙◌}
use Rattle.rc_base.specs.declared.replies.Why.TheVariants.{Locking}
use Rattle.tree_core.proofs.Changes.{MakesUnless-refused, MakesUnless-same, unless-same}
use Rattle.tree_core.proofs.WrittenCpus as written
use Rattle.tree_core.specs.CpuFiles.{named_by, set_read}
use Rattle.tree_core.specs.Values.{TreeValue}
use Rattle.tree_law.specs.Refusals.{plain, reply_of}
use Rattle.tree_law.specs.Sound.{IsSound}
use Rattle.tree_law.specs.State.{State}
use Rattle.tree_law.specs.commands.Cpus.{against_set, cpus_after}
use Rattle.tree_core.proofs.tree.Tree.join_cpus.Goals as goal

pub returns-then-is_closed : goal.returns-then-is_closed
returns-then-is_closed c =
    let m = c.args.self.now.machine in let s = c.args.self.now.state in let g = c.args.group.now in let named = named_by m c.args.kind c.args.text.now in
    MakesUnless-refused (plain Locking) (written.refusal-closed s g named (sym c.is_closed.ensures ∙ c.if-is_closed.true)) refl c.refused.ensures refl

pub take_cpus-requires : goal.take_cpus-requires
take_cpus-requires c =
    let m = c.args.self.now.machine in let s = c.args.self.now.state in let g = c.args.group.now in let named = named_by m c.args.kind c.args.text.now in
    let opened = sym c.is_closed.ensures ∙ c.if-is_closed.false in
    let read : Ok c.in-Ok.set ≡ set_read named = sym c.in-Ok.is ∙ c.read_cpus.ensures ∙ ap (λ (v : TreeValue). set_read (named_by v.machine c.args.kind c.args.text.now)) c.self.view_is in
    record { sound = λ none. subst (IsSound m) (written.accepted-set s g named opened c.in-Ok.set read) (c.requires.sound (written.refusal-set s g named opened c.in-Ok.set read ∙ none)) }

pub returns-in-Ok : goal.returns-in-Ok
returns-in-Ok c =
    let m = c.args.self.now.machine in let s = c.args.self.now.state in let g = c.args.group.now in let named = named_by m c.args.kind c.args.text.now in
    let opened = sym c.is_closed.ensures ∙ c.if-is_closed.false in
    let read : Ok c.in-Ok.set ≡ set_read named = sym c.in-Ok.is ∙ c.read_cpus.ensures ∙ ap (λ (v : TreeValue). set_read (named_by v.machine c.args.kind c.args.text.now)) c.self.view_is in
    let v = c.args.self.now in let against = against_set g.gid g.kind s.cpus c.in-Ok.set in
    MakesUnless-same (written.refusal-set s g named opened c.in-Ok.set read) (written.accepted-set s g named opened c.in-Ok.set read) refl (record {
      tree = c.take_cpus.ensures.tree ∙ ap (λ (x : State). record v { state = x }) (written.unless-cpus s against (cpus_after g.gid g.kind c.in-Ok.set s.cpus));
      reply = c.take_cpus.ensures.reply;
      after = sym (unless-same against []);
    })

pub returns-in-Err : goal.returns-in-Err
returns-in-Err c =
    let m = c.args.self.now.machine in let s = c.args.self.now.state in let g = c.args.group.now in let named = named_by m c.args.kind c.args.text.now in
    let opened = sym c.is_closed.ensures ∙ c.if-is_closed.false in
    let read : Err c.in-Err.fault ≡ set_read named = sym c.in-Err.is ∙ c.read_cpus.ensures ∙ ap (λ (v : TreeValue). set_read (named_by v.machine c.args.kind c.args.text.now)) c.self.view_is in
    let is = written.against_read-fault s g c.in-Err.fault in
    MakesUnless-refused (written.fault_refusal c.in-Err.fault) (written.refusal-fault s g named opened c.in-Err.fault read ∙ is) refl (c.refusal.ensures ∙ ap reply_of is) refl
