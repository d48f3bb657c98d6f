use Rattle.step_world.proofs.SinglePlays.{plays-one}
use Rattle.step_world.proofs.theorems.plays_are_one.Goals as goal

pub returns : goal.returns
returns c script one other lawful plays its = plays-one script lawful _ one other plays its
