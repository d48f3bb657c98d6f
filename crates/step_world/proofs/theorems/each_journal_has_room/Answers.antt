use Rattle.step_world.proofs.laws.EntryRooms.{entries-few}
use Rattle.step_world.proofs.laws.Schedules.{each_moment}
use Rattle.step_world.proofs.theorems.each_journal_has_room.Goals as goal

pub returns : goal.returns
returns c script events first last lawful opening plays i there = entries-few script last lawful (each_moment script events first last lawful.in_range.some_slice opening plays) i there
