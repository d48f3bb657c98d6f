use Rattle.std.proofs.Common.{◌∙◌, List, ap, length, sym}
use Rattle.journal_check.proofs.RestLists.{due-at_follow, due-at_need, none-if, one-if}
use Rattle.journal_check.proofs.dues.is_due.Goals as goal
use Rattle.machine.specs.Maps.{parameters_of}
use Rattle.run_law.specs.Owed.{Owed}

pub returns-then-c-needs-clause-none : goal.returns-then-c-needs-clause-none
returns-then-c-needs-clause-none c told k =
    due-at_need (parameters_of c.args.m.now) c.args.i k c.args.step.now c.as_slice-needs.result.now c.args.c c.as_slice-needs.ensures c.if-c-needs.true
    ∙ none-if _ _ (sym c.is_here.ensures ∙ told)

pub returns-then-c-needs-clause-one : goal.returns-then-c-needs-clause-one
returns-then-c-needs-clause-one c told k =
    ap (λ (owed : List Owed). length owed) (due-at_need (parameters_of c.args.m.now) c.args.i k c.args.step.now c.as_slice-needs.result.now c.args.c c.as_slice-needs.ensures c.if-c-needs.true)
    ∙ one-if _ _ (sym c.is_here.ensures ∙ told)

pub returns-else-c-needs-clause-none : goal.returns-else-c-needs-clause-none
returns-else-c-needs-clause-none c told k =
    due-at_follow (parameters_of c.args.m.now) c.args.i k c.args.step.now c.as_slice-needs.result.now c.args.c c.index.result.now _ c.as_slice-needs.ensures c.if-c-needs.false c.requires c.index.ensures
    ∙ none-if _ _ (sym c.is_entered_in.ensures ∙ told)

pub returns-else-c-needs-clause-one : goal.returns-else-c-needs-clause-one
returns-else-c-needs-clause-one c told k =
    ap (λ (owed : List Owed). length owed) (due-at_follow (parameters_of c.args.m.now) c.args.i k c.args.step.now c.as_slice-needs.result.now c.args.c c.index.result.now _ c.as_slice-needs.ensures c.if-c-needs.false c.requires c.index.ensures)
    ∙ one-if _ _ (sym c.is_entered_in.ensures ∙ told)
