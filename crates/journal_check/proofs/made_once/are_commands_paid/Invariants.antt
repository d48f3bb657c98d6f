use Rattle.std.proofs.Common.{ℕ, ◌<◌}
use Rattle.journal_check.specs.Payments.{AreAllPaid}
use Rattle.run_law.specs.Journals.{slice_at}
use Rattle.journal_check.proofs.made_once.are_commands_paid.Given as goal

abbrev pub invariant-loop-i : goal.invariant-loop-i
invariant-loop-i l = (k : ℕ) → k < l.i → AreAllPaid l.traced.script.now.machine k l.traced.journals.now.tree l.traced.steps.now (slice_at l.traced.journals.now k)
