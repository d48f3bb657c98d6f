use Rattle.tree_law.proofs.laws.Refusals.{left-same, left-tasks, next-refused, status-next, with_status-alone}
use Rattle.tree_law.proofs.theorems.refused_is_left.Goals as goal

pub returns : goal.returns
returns c = record { answer = next-refused; same = left-same; tasks = left-tasks; kept = status-next; alone = with_status-alone }
