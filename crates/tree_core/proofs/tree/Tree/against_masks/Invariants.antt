use Rattle.std.proofs.Common.{◌≡◌, drop}
use Rattle.tree_law.specs.commands.Schemata.{against_entries}
use Rattle.tree_core.proofs.tree.Tree.against_masks.Given as goal

abbrev pub invariant-loop-a : goal.invariant-loop-a
invariant-loop-a l = against_entries l.self.machine l.self.state l.group (drop l.a-index l.all) ≡ against_entries l.self.machine l.self.state l.group l.all
