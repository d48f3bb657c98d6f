use Rattle.std.proofs.Common.{length}
use Rattle.way_plans.proofs.runs.+states_of.Given as goal

abbrev pub decreases-states_of : goal.decreases-states_of
decreases-states_of l = length l.runs.now
