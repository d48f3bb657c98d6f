use Rattle.live_run.proofs.closing_room.lists.Given as goal
use Rattle.live_run.specs.Closings.{AreRoomy}

abbrev pub invariant-loop : goal.invariant-loop
invariant-loop g l = AreRoomy l.counter l.room l.lists.items
