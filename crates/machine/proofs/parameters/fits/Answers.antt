use Rattle.machine.proofs.Masks.{eqb-shifted, leb-wide}
use Rattle.machine.proofs.parameters.fits.Goals as goal
use Rattle.std.proofs.Common.{arith}

pub returns-then-ways-ge32 : goal.returns-then-ways-ge32
returns-then-ways-ge32 c = leb-wide c.args.mask c.args.ways (omega arith) (omega arith)

pub returns-else-ways-ge32 : goal.returns-else-ways-ge32
returns-else-ways-ge32 c = eqb-shifted c.args.mask c.args.ways
