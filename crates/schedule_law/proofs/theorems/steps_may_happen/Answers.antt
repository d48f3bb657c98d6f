use Rattle.schedule_law.proofs.Happenings.{steps_may_happen}
use Rattle.schedule_law.proofs.theorems.steps_may_happen.Goals as goal

pub returns : goal.returns
returns c = steps_may_happen
