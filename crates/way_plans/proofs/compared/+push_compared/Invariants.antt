use Rattle.std.proofs.Common.{length}
use Rattle.way_plans.proofs.compared.+push_compared.Given as goal

abbrev pub decreases-push_compared : goal.decreases-push_compared
decreases-push_compared l = length l.plans.now
