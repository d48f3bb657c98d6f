use Rattle.std.proofs.Common.{ap, ◌∙◌}
use Rattle.tree_core.proofs.KeptTables.{Keeps-from_IsKept}
use Rattle.tree_core.specs.Values.{TreeValue}
use Rattle.tree_core.proofs.tree.Tree.rmids.Goals as goal

pub returns-clause-count : goal.returns-clause-count
returns-clause-count c = (Keeps-from_IsKept c.self.invariant).stands.taken.rmid_count ∙ ap (λ (t : TreeValue). t.machine.rmids) c.self.view_is
