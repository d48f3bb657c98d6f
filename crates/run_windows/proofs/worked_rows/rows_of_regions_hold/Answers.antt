use Rattle.run_windows.proofs.Regions.{FlushedRegion-holds, RemovedRegion-holds}
use Rattle.run_windows.proofs.worked_rows.rows_of_regions_hold.Goals as goal

pub returns-clause-flushed : goal.returns-clause-flushed
returns-clause-flushed c = FlushedRegion-holds

pub returns-clause-removed : goal.returns-clause-removed
returns-clause-removed c = RemovedRegion-holds
