use Rattle.tree_core.proofs.KeptTables.{Keeps-from_IsKept}
use Rattle.tree_core.proofs.tree.Tree.tasks.Goals as goal

pub returns-clause-few : goal.returns-clause-few
returns-clause-few c = (Keeps-from_IsKept c.self.invariant).few_tasks
