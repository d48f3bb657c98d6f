use Rattle.cpu_lists.proofs.LowParts.{has-low_part, has-no_low_part}
use Rattle.cpu_lists.proofs.numbers.low_part.Goals as goal

pub returns-then-run-ge64 : goal.returns-then-run-ge64
returns-then-run-ge64 c k lt = has-no_low_part c.args.run k c.if-run-ge64.true lt

pub returns : goal.returns
returns c k lt = rw c.min.ensures (has-low_part c.args.run k c.if-run-ge64.false lt)
