use Rattle.std.proofs.Common.{length}
use Rattle.share_plans.proofs.demands.+push_demands.Given as goal

abbrev pub decreases-push_demands : goal.decreases-push_demands
decreases-push_demands l = length l.programs.now
