use Rattle.std.proofs.Common.{sym, ap, ◌∙◌}
use Rattle.std.specs.List.{flat_map}
use Rattle.tree_core.proofs.ReadCounts.{needs-tick}
use Rattle.tree_core.specs.RmidLists.{counts_in}
use Rattle.tree_core.specs.Values.{TreeValue}
use Rattle.tree_law.specs.Freeing.{counts_of}
use Rattle.tree_core.proofs.tree.Tree.needed_by_tick.Goals as goal

pub returns-clause-needs : goal.returns-clause-needs
returns-clause-needs c =
    let m = c.args.self.now.machine in let s = c.args.self.now.state in
    ap (λ (v : TreeValue). flat_map (counts_in 0 v.machine.domains) c.push_limbo.new.rmids.items) c.self.view_is ∙ ap (counts_of m) c.push_limbo.ensures ∙ sym (needs-tick m s)
