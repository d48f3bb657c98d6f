use Rattle.std.proofs.Common.{◌≡◌, length, take}
use Rattle.journal_check.specs.Payments.{ArePaid}
use Rattle.run_law.specs.Journals.{slice_at}
use Rattle.journal_check.proofs.payments.pay_all.Given as goal

abbrev pub invariant-loop-p : goal.invariant-loop-p
invariant-loop-p l = record {
  count : length l.cursors.items ≡ length l.traced.journals.now.tree;
  paid : ArePaid l.traced.script.now.machine l.i l.traced.journals.now.tree l.traced.steps.now (take l.p (slice_at l.traced.journals.now l.i)) l.cursors.items;
}
