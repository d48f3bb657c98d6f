use Rattle.way_plans.proofs.InOrder.{IsBestIfAnyIn-any, is-any}
use Rattle.way_plans.proofs.best.best_division.Goals as goal

pub returns-clause-best : goal.returns-clause-best
returns-clause-best c =
    let free = c.args.free.now in
    let least = c.args.least in
    IsBestIfAnyIn-any free least c.args.groups.now c.in_ok-any.any c.fewer_of.result (is-any free c.in_ok-has_few_states.field-0 c.in_ok-has_few_states.ensures c.if-not-branch.false)
    (c.fewer_of.ensures.best free least c.requires.least c.in_ok-in_order.ensures.best c.in_ok-any.ensures.best) c.fewer_of.ensures.none c.in_ok-any.ensures.none
