use Rattle.std.proofs.Common.{arith}
use Rattle.run_law.proofs.rooms.add_to_each.Goals as goal

pub overflow_add-rooms : goal.overflow_add-rooms
overflow_add-rooms c = omega (arith, c.loop-i.invariant.rest c.loop-i.i (omega arith), c.requires.small c.loop-i.i c.loop-i-test.true)
