use Rattle.std.proofs.Common.{subst}
use Rattle.cpu_lists.specs.Collected.{IsBeyond}
use Rattle.cpu_lists.proofs.Additions.{IsBeyond-run_below, IsBeyond-run_alone, IsBeyond-run_beside}
use Rattle.cpu_lists.proofs.numbers.with_high.Goals as goal

pub returns-then-run-lt64 : goal.returns-then-run-lt64
returns-then-run-lt64 c test high = IsBeyond-run_below test c.args.high c.args.run c.if-run-lt64.true high

pub returns-in-Some : goal.returns-in-Some
returns-in-Some c test high = rw c.min.ensures (IsBeyond-run_beside test c.args.run c.in-Some.n c.max-first.result c.max-first.ensures c.max-first.type_inv c.requires c.if-run-lt64.false (subst (IsBeyond test) c.in-Some.is high))

pub returns-in-None : goal.returns-in-None
returns-in-None c test high = IsBeyond-run_alone test c.args.run c.max-first.result c.max-first.ensures c.max-first.type_inv c.requires c.if-run-lt64.false (subst (IsBeyond test) c.in-None.is high)
