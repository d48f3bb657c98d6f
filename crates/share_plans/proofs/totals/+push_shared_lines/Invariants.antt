use Rattle.std.proofs.Common.{length}
use Rattle.share_plans.proofs.totals.+push_shared_lines.Given as goal

abbrev pub decreases-push_shared_lines : goal.decreases-push_shared_lines
decreases-push_shared_lines l = length l.programs.now
