use Rattle.std.proofs.Common.{length}
use Rattle.share_plans.proofs.report.+push_curves.Given as goal

abbrev pub decreases-push_curves : goal.decreases-push_curves
decreases-push_curves l = length l.programs.now
