use Rattle.std.proofs.Common.{◌≡◌}
use Rattle.journal_check.specs.Payments.{rest}
use Rattle.machine.specs.Maps.{parameters_of}
use Rattle.journal_check.proofs.dues.next_due.Given as goal

abbrev pub invariant-loop-c : goal.invariant-loop-c
invariant-loop-c l = rest (parameters_of l.debt.machine.now) l.debt.slice l.debt.position l.debt.step.now l.from ≡ rest (parameters_of l.debt.machine.now) l.debt.slice l.debt.position l.debt.step.now l.c
