use Rattle.std.proofs.Common.{length}
use Rattle.share_plans.proofs.totals.+score_of.Given as goal

abbrev pub decreases-score_of : goal.decreases-score_of
decreases-score_of l = length l.demands.now
