use Rattle.live_law.proofs.laws.TreeCells.{TreeKeeps-command, TreeKeeps-grown}
use Rattle.live_law.proofs.theorems.tree_is_kept.Goals as goal

pub returns : goal.returns
returns c = record { sees_more = TreeKeeps-grown; adds_command = TreeKeeps-command }
