use Rattle.std.proofs.Common.{sym, ◌∙◌}
use Rattle.journal_check.proofs.RestLists.{rest-some}
use Rattle.machine.specs.Maps.{parameters_of}
use Rattle.journal_check.proofs.dues.is_ended.Goals as goal

pub returns-then-is_due-clause-some : goal.returns-then-is_due-clause-some
returns-then-is_due-clause-some c told k is =
    rest-some (parameters_of c.args.m.now) c.args.i k c.args.step.now c.loop-c.c (c.is_due.ensures.one c.if-is_due.true k)
    (sym (c.loop-c.invariant k) ∙ is)
