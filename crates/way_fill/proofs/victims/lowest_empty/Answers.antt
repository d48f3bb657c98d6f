use Rattle.std.proofs.Common.{arith}
use Rattle.way_fill.proofs.LowestEmpty.{IsLowestEmpty-trailing_zeros}
use Rattle.way_fill.proofs.victims.lowest_empty.Goals as goal

pub overflow_cast-result : goal.overflow_cast-result
overflow_cast-result c = let h = IsLowestEmpty-trailing_zeros c.args.valid c.args.mask (omega arith) (omega arith) in omega (arith, h.limit)

pub returns : goal.returns
returns c = IsLowestEmpty-trailing_zeros c.args.valid c.args.mask (omega arith) (omega arith)
