use Rattle.std.proofs.Common.{length}
use Rattle.way_plans.proofs.state_rows.+push_spans.Given as goal

abbrev pub decreases-push_spans : goal.decreases-push_spans
decreases-push_spans l = length l.groups.now
