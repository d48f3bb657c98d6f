use Rattle.plan_reading.proofs.ReadPlans.{plans-back}
use Rattle.plan_reading.proofs.plan_theorems.lines_read_back.Goals as goal

pub returns : goal.returns
returns c = plans-back c.phases_read_back.ensures c.lines_are_commands.ensures
