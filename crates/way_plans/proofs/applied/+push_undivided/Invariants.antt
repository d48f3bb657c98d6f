use Rattle.std.proofs.Common.{length}
use Rattle.way_plans.proofs.applied.+push_undivided.Given as goal

abbrev pub decreases-push_undivided : goal.decreases-push_undivided
decreases-push_undivided l = length l.plans.now
