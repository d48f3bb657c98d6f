use Rattle.tree_law.proofs.Rows.{LimboRow-holds, LockRow-holds, LockState-holds, RegionRow-holds, SetupRow-holds, SpaceRow-holds, TasksRow-holds}
use Rattle.tree_law.proofs.theorems.rows_are_answered.Goals as goal

pub returns : goal.returns
returns c = record { limbo = LimboRow-holds; tasks = TasksRow-holds; setup = SetupRow-holds; lock = LockRow-holds; state = LockState-holds; space = SpaceRow-holds; region = RegionRow-holds }
