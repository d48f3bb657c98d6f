use Rattle.std.proofs.Common.{length}
use Rattle.way_plans.proofs.divisions.+misses_of.Given as goal

abbrev pub decreases-misses_of : goal.decreases-misses_of
decreases-misses_of l = length l.rows.now
