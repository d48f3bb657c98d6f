use Rattle.std.proofs.Common.{length}
use Rattle.way_plans.proofs.curves.+push_curves.Given as goal

abbrev pub decreases-push_curves : goal.decreases-push_curves
decreases-push_curves l = length l.groups.now
