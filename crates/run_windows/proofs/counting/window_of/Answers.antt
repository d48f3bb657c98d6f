use Rattle.std.proofs.Common.{arith}
use Rattle.run_windows.proofs.counting.window_of.Goals as goal
use Rattle.cbm.proofs.laws.Ways.{length-ways_of}

pub overflow_cast-result : goal.overflow_cast-result
overflow_cast-result c = omega (arith, c.count.ensures, length-ways_of c.args.stay.mask)
