use Rattle.std.proofs.Common.{arith}
use Rattle.journal_check.proofs.Told.{is_true}
use Rattle.journal_check.specs.Outcomes.{AreFull}
use Rattle.journal_check.proofs.victims.are_full.Goals as goal

pub returns : goal.returns
returns c = is_true (AreFull c.args.slots.now c.args.set c.args.mask c.args.below) (λ w less has. c.loop-way.invariant w (omega (arith, less, c.loop-way-test.false)) has)
