use Rattle.std.proofs.Common.{[], arith}
use Rattle.cpu_lists.proofs.KeptNumbers.{answer_of-stranger_low, answer_of-stranger_high, answer_of-all_cpus, low-lt_pow}
use Rattle.cpu_lists.proofs.numbers.judge.Goals as goal

pub returns-then-stranger-lt64-clause-said : goal.returns-then-stranger-lt64-clause-said
returns-then-stranger-lt64-clause-said c numbers collected =
    rw c.from-then-stranger-lt64.ensures (answer_of-stranger_low numbers (record { low = c.args.low; high = c.args.high }) c.args.cpus c.next-stranger.result collected (omega arith) c.if-stranger-lt64.true (c.next-stranger.ensures.found c.if-stranger-lt64.true) (λ k from lt. c.next-stranger.ensures.passed k (omega arith) lt))

pub returns-in-Some-clause-said : goal.returns-in-Some-clause-said
returns-in-Some-clause-said c numbers collected =
    answer_of-stranger_high numbers (record { low = c.args.low; high = c.args.high }) c.args.cpus c.in-Some.cpu collected c.requires c.in-Some.is (λ k from lt. c.next-stranger.ensures.passed k (omega arith) (omega arith))

pub returns-in-None-clause-said : goal.returns-in-None-clause-said
returns-in-None-clause-said c numbers collected =
    answer_of-all_cpus numbers (record { low = c.args.low; high = c.args.high }) c.args.cpus collected c.ranges.low.fits c.in-None.is (λ k from lt. c.next-stranger.ensures.passed k (omega arith) (omega arith))

pub returns-in-None-clause-exist : goal.returns-in-None-clause-exist
returns-in-None-clause-exist c = low-lt_pow [] (record { low = c.args.low; high = c.args.high }) c.args.cpus c.ranges.low.fits (λ k from lt. c.next-stranger.ensures.passed k (omega arith) (omega arith))
