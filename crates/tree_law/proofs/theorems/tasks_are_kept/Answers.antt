use Rattle.tree_law.proofs.laws.DeclaredTasks.{tasks_of-next}
use Rattle.tree_law.proofs.theorems.tasks_are_kept.Goals as goal

pub returns : goal.returns
returns c = tasks_of-next
