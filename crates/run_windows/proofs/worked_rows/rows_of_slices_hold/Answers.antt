use Rattle.run_windows.proofs.Slices.{CoveredRow-holds, DroppedLines-holds, LoadedRow-holds, PrivateRow-holds}
use Rattle.run_windows.proofs.worked_rows.rows_of_slices_hold.Goals as goal

pub returns-clause-private : goal.returns-clause-private
returns-clause-private c = PrivateRow-holds

pub returns-clause-covered : goal.returns-clause-covered
returns-clause-covered c = CoveredRow-holds

pub returns-clause-drops : goal.returns-clause-drops
returns-clause-drops c = DroppedLines-holds

pub returns-clause-loaded : goal.returns-clause-loaded
returns-clause-loaded c = LoadedRow-holds
