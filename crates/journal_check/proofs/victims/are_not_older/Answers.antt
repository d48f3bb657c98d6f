use Rattle.std.proofs.Common.{arith}
use Rattle.journal_check.proofs.Told.{is_true}
use Rattle.journal_check.specs.Outcomes.{AreNotOlder}
use Rattle.journal_check.proofs.victims.are_not_older.Goals as goal

pub returns : goal.returns
returns c = is_true (AreNotOlder c.args.slots.now c.args.set c.args.mask c.args.way c.args.used) (λ w less has. c.loop-w.invariant w (omega (arith, less, c.loop-w-test.false, c.ways-w-end.ensures.ways)) has)
