use Rattle.std.proofs.Common.{not, ap, ◌∙◌}
use Rattle.way_plans.proofs.BestRows.{AreWithin-rows, best-division, no-division}
use Rattle.way_plans.proofs.division.divide.Goals as goal

pub returns-then-is_none-clause-none : goal.returns-then-is_none-clause-none
returns-then-is_none-clause-none c = λ _. no-division c.args.free.now c.args.least c.requires.least c.requires.ways c.args.groups.now c.in_ok-rows.rows.items c.index.result.now c.in_ok-rows.ensures c.index.ensures
    (c.is_none.ensures ∙ ap not c.if-is_none.true)

pub push_spans-requires-clause-within : goal.push_spans-requires-clause-within
push_spans-requires-clause-within c = rw c.deref.ensures.value (AreWithin-rows c.args.free.now c.args.least c.requires.least c.requires.ways c.args.groups.now c.in_ok-rows.rows.items c.in_ok-rows.ensures)

pub returns-clause-best : goal.returns-clause-best
returns-clause-best c = rw (c.in_ok-push_spans.ensures, c.new-spans.ensures.items, c.deref.ensures.value)
    (best-division c.args.free.now c.args.least c.requires.least c.requires.ways c.args.groups.now c.in_ok-rows.rows.items c.index.result.now c.in_ok-rows.ensures c.index.ensures
    (c.is_none.ensures ∙ ap not c.if-is_none.false))
