use Rattle.run_windows.proofs.LockEnds.{IsLockWindow-some}
use Rattle.run_windows.proofs.LockWindows.{HoldsLoaded-lock_window}
use Rattle.run_windows.proofs.theorems.regions_hold.Goals as goal

pub returns-clause-hold : goal.returns-clause-hold
returns-clause-hold c = HoldsLoaded-lock_window

pub returns-clause-exist : goal.returns-clause-exist
returns-clause-exist c = IsLockWindow-some
