use Rattle.run_windows.proofs.IsolatedWindows.{covered_hits-worlds}
use Rattle.run_windows.proofs.theorems.worlds_agree.Goals as goal

pub returns : goal.returns
returns c = covered_hits-worlds
