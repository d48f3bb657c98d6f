use Rattle.pair_law.proofs.laws.Counts.{CountsAgree-joint_window}
use Rattle.pair_law.proofs.run_theorems.joint_counts_agree.Goals as goal

pub returns : goal.returns
returns c = CountsAgree-joint_window
