use Rattle.std.proofs.Common.{length}
use Rattle.way_plans.proofs.placing.+best_among.Given as goal

abbrev pub decreases-best_among : goal.decreases-best_among
decreases-best_among l = length l.runs.now
