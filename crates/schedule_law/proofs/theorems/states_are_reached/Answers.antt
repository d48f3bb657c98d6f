use Rattle.schedule_law.proofs.ReachedParts.{slices_have_room, states_close, states_open}
use Rattle.schedule_law.proofs.theorems.states_are_reached.Goals as goal

pub returns-clause-open : goal.returns-clause-open
returns-clause-open c = states_open

pub returns-clause-room : goal.returns-clause-room
returns-clause-room c = slices_have_room

pub returns-clause-close : goal.returns-clause-close
returns-clause-close c = states_close
