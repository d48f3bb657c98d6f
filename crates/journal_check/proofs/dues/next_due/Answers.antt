use Rattle.std.proofs.Common.{◌≡◌, true, false, sym, ◌∙◌}
use Rattle.journal_check.proofs.RestLists.{rest-first}
use Rattle.machine.specs.Maps.{parameters_of}
use Rattle.run_law.specs.Owed.{paid_by}
use Rattle.journal_check.proofs.dues.next_due.Goals as goal

pub returns-then-is_due : goal.returns-then-is_due
returns-then-is_due c more is =
    let first =
    rest-first (parameters_of c.args.debt.now.machine.now) c.args.debt.now.slice c.args.debt.now.position c.args.debt.now.step.now c.loop-c.c (c.is_due.ensures.one c.if-is_due.true c.args.debt.now.position) (paid_by c.args.entry.now) more
    (sym c.loop-c.invariant ∙ is) in
    let wrong : true ≡ false = sym (c.pays.ensures.1 first) ∙ c.if-pays.false in
    cc
