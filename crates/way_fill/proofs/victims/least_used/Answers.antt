use Rattle.std.proofs.Common.{arith, refl}
use Rattle.way_fill.proofs.LowestWay.{IsLeast-trailing_zeros}
use Rattle.way_fill.proofs.victims.least_used.Goals as goal

pub bounds-used-best : goal.bounds-used-best
bounds-used-best c = (IsLeast-trailing_zeros c.args.used.now c.args.mask (omega arith) c.requires.mask).within

pub loop-way-init : goal.loop-way-init
loop-way-init c = record {
  is = IsLeast-trailing_zeros c.args.used.now c.args.mask (omega arith) c.requires.mask;
  least = refl;
}
