use Rattle.std.proofs.Common.{length}
use Rattle.way_plans.proofs.domains.+push_domains.Given as goal

abbrev pub decreases-push_domains : goal.decreases-push_domains
decreases-push_domains l = length l.plans.now
