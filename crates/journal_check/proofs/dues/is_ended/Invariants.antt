use Rattle.std.proofs.Common.{◌≡◌, ℕ}
use Rattle.journal_check.specs.Payments.{rest}
use Rattle.machine.specs.Maps.{parameters_of}
use Rattle.journal_check.proofs.dues.is_ended.Given as goal

abbrev pub invariant-loop-c : goal.invariant-loop-c
invariant-loop-c l = (k : ℕ) → rest (parameters_of l.m) l.i k l.step l.from ≡ rest (parameters_of l.m) l.i k l.step l.c
