use Rattle.std.proofs.Common.{length}
use Rattle.share_plans.proofs.table.+push_counts.Given as goal

abbrev pub decreases-push_counts : goal.decreases-push_counts
decreases-push_counts l = length l.demands.now
