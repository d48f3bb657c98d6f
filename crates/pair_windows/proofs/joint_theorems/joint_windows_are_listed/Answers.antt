use Rattle.pair_windows.proofs.laws.JointUsedWindows.{AreJointWindowsOf-listed}
use Rattle.pair_windows.proofs.joint_theorems.joint_windows_are_listed.Goals as goal

pub returns : goal.returns
returns c = AreJointWindowsOf-listed
