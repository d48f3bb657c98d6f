use Rattle.live_law.proofs.laws.Ends.{IsRun-at_end}
use Rattle.live_law.proofs.theorems.each_end_is_a_run.Goals as goal

pub returns : goal.returns
returns c = IsRun-at_end
