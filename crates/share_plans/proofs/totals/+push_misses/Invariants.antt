use Rattle.std.proofs.Common.{length}
use Rattle.share_plans.proofs.totals.+push_misses.Given as goal

abbrev pub decreases-push_misses : goal.decreases-push_misses
decreases-push_misses l = length l.demands.now
