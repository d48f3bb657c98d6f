use Rattle.std.proofs.Common.{arith}
use Rattle.run_law.proofs.laws.LightCounts.{all_counts-light}
use Rattle.run_law.proofs.laws.LightRooms.{all_rooms-light}
use Rattle.run_law.proofs.theorems.rooms_are_within_weight.Goals as goal

pub returns : goal.returns
returns c = record {
  weight = λ script. all_rooms-light script;
  bounded = λ script lawful. omega (arith, all_rooms-light script, lawful.light);
  counts = all_counts-light;
}
