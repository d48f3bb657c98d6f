use Rattle.way_plans.proofs.NoWays.{misses_with-none}
use Rattle.way_plans.proofs.report_theorems.all_miss_with_no_ways.Goals as goal

pub returns : goal.returns
returns c = misses_with-none
