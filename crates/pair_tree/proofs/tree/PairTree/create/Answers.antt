use Rattle.std.proofs.Common.{ap, ◌∙◌}
use Rattle.pair_law.specs.State.{opening}
use Rattle.pair_tree.proofs.Kept.{IsKept-opening}
use Rattle.pair_tree.proofs.tree.PairTree.create.Goals as goal

pub invariant_of-result : goal.invariant_of-result
invariant_of-result c = IsKept-opening c.args.script.now _ _ c.requires.lawful c.of-machines.ensures (c.in_ok-tables.ensures.state ∙ ap (opening c.of-machines.result) c.tasks.ensures)
