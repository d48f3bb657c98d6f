use Rattle.pair_law.proofs.laws.WindowExtents.{IsJointWindow-same, IsJointWindow-some}
use Rattle.pair_law.proofs.run_theorems.joint_windows_are_one.Goals as goal

pub returns-clause-exist : goal.returns-clause-exist
returns-clause-exist c = IsJointWindow-some

pub returns-clause-unique : goal.returns-clause-unique
returns-clause-unique c = IsJointWindow-same
