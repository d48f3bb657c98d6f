use Rattle.std.proofs.Common.{◌≡◌, ℕ, ◌<◌, []}
use Rattle.journal_check.specs.Payments.{rest}
use Rattle.journal_check.specs.declared.trace.Step.{Step}
use Rattle.machine.specs.Maps.{parameters_of}
use Rattle.run_law.specs.Journals.{At}
use Rattle.journal_check.proofs.payments.are_ended.Given as goal

abbrev pub invariant-loop-k : goal.invariant-loop-k
invariant-loop-k l = (k c : ℕ) (step : Step) → k < l.k → At l.steps k step → At l.cursors k c → rest (parameters_of l.m) l.i k step c ≡ []
