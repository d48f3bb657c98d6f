use Rattle.live_law.proofs.laws.JobQuotas.{in_slice-few}
use Rattle.live_law.proofs.laws.OwnRoom.{HasRoom-op, access-room, command-room, commands_from-counted, entries_by-few, job-room, jobs-room}
use Rattle.live_law.proofs.theorems.passes_have_room.Goals as goal

pub returns : goal.returns
returns c = record {
  jobs_are_few = in_slice-few;
  entries_are_few = entries_by-few;
  commands_are_counted = commands_from-counted;
  op = HasRoom-op;
  access = access-room;
  jobs = λ script start t n taken k i c made v within holds. jobs-room script start t n taken k c made v holds i within;
  job = λ script start t n taken k c made v job within at holds. job-room script start t n taken k c made v holds job within at;
  command = command-room;
}
