use Rattle.std.proofs.Common.{arith}
use Rattle.cbm.proofs.Counts.{count_ones-ways}
use Rattle.cbm.proofs.sets.count.Goals as goal

pub returns : goal.returns
returns c = count_ones-ways c.args.mask (omega arith)
