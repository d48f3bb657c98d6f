use Rattle.way_curve.proofs.TraceUses.{filtered_reads_back}
use Rattle.way_curve.proofs.filter_theorems.filtered_reads_back.Goals as goal

pub returns : goal.returns
returns c = filtered_reads_back
