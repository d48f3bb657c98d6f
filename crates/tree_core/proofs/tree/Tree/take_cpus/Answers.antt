use Rattle.std.proofs.Common.{◌≡◌, None, sym, subst}
use Rattle.tree_core.proofs.KeptTables.{IsKept-from_Keeps, Keeps-from_IsKept}
use Rattle.tree_core.proofs.WrittenCpus.{Keeps-with_cpus}
use Rattle.tree_core.specs.Values.{TreeValue}
use Rattle.tree_law.specs.Sound.{IsSound}
use Rattle.tree_law.specs.commands.Cpus.{against_set, cpus_after}
use Rattle.tree_core.proofs.tree.Tree.take_cpus.Goals as goal

pub invariant_of-self : goal.invariant_of-self
invariant_of-self c =
    let t = c.self.inside in let g = c.args.group.now in
    IsKept-from_Keeps (Keeps-with_cpus (against_set g.gid g.kind t.cpus c.args.set) (cpus_after g.gid g.kind c.args.set t.cpus) c.give.new.cpus (Keeps-from_IsKept c.self.invariant) c.give.ensures.cpus
    (subst (λ (v : TreeValue). against_set g.gid g.kind v.state.cpus c.args.set ≡ None → IsSound v.machine (record v.state { cpus = cpus_after g.gid g.kind c.args.set v.state.cpus })) (sym c.self.view_is) c.requires.sound))
