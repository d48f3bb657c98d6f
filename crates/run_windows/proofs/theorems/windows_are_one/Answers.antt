use Rattle.run_windows.proofs.OneWindow.{IsWindow-same}
use Rattle.run_windows.proofs.WindowEnds.{IsWindow-some}
use Rattle.run_windows.proofs.theorems.windows_are_one.Goals as goal

pub returns-clause-exist : goal.returns-clause-exist
returns-clause-exist c = IsWindow-some

pub returns-clause-unique : goal.returns-clause-unique
returns-clause-unique c = IsWindow-same
