use Rattle.live_run.proofs.quotas.thread_rooms.Given as goal
use Rattle.live_run.specs.Logs.{AreThreadRooms}

abbrev pub invariant-loop-t : goal.invariant-loop-t
invariant-loop-t l = AreThreadRooms l.script l.t l.rooms.items
