use Rattle.std.proofs.Common.{◌∙◌, sym}
use Rattle.journal_check.proofs.RestLists.{due-at_follow, due-at_need}
use Rattle.journal_check.proofs.dues.pays.Goals as goal
use Rattle.machine.specs.Maps.{parameters_of}

pub returns-then-c-needs : goal.returns-then-c-needs
returns-then-c-needs c =
    let is = due-at_need (parameters_of c.args.debt.now.machine.now) c.args.debt.now.slice c.args.debt.now.position c.args.debt.now.step.now c.as_slice-needs.result.now c.args.c c.as_slice-needs.ensures c.if-c-needs.true in
    (λ told. is ∙ c.pays_look.ensures.0 told, λ owed. c.pays_look.ensures.1 (sym is ∙ owed))

pub returns-else-c-needs : goal.returns-else-c-needs
returns-else-c-needs c =
    let is = due-at_follow (parameters_of c.args.debt.now.machine.now) c.args.debt.now.slice c.args.debt.now.position c.args.debt.now.step.now c.as_slice-needs.result.now c.args.c c.index-follow.result.now _ c.as_slice-needs.ensures c.if-c-needs.false c.requires.within c.index-follow.ensures in
    (λ told. is ∙ c.pays_follow.ensures.0 told, λ owed. c.pays_follow.ensures.1 (sym is ∙ owed))
