use Rattle.std.proofs.Common.{arith}
use Rattle.cbm.proofs.laws.Ways.{length-ways_of}
use Rattle.pair_windows.proofs.counted.window_of.Goals as goal

pub overflow_cast-result : goal.overflow_cast-result
overflow_cast-result c = omega (arith, c.count.ensures, length-ways_of c.args.p.mask)
