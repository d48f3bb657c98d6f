use Rattle.pair_law.proofs.laws.LevelWindows.{HitsAsPrivate-joint_window}
use Rattle.pair_law.proofs.run_theorems.level_windows_are_isolated.Goals as goal

pub returns : goal.returns
returns c = HitsAsPrivate-joint_window
