use Rattle.std.proofs.Common.{length}
use Rattle.share_plans.proofs.totals.+push_divided.Given as goal

abbrev pub decreases-push_divided : goal.decreases-push_divided
decreases-push_divided l = length l.programs.now
