use Rattle.run_windows.proofs.IsolatedWindows.{IsIsolated-window}
use Rattle.run_windows.proofs.theorems.windows_are_isolated.Goals as goal

pub returns : goal.returns
returns c = IsIsolated-window
