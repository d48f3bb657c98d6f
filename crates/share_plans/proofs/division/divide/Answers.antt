use Rattle.std.proofs.Common.{List, ℕ, arith, not, sym, subst, ap, ◌∙◌, ◌++◌, Option}
use Rattle.share_plans.specs.declared.choice.Choice.{Choice}
use Rattle.share_plans.specs.Divisions.{IsBestDivision}
use Rattle.share_plans.specs.Rows.{counts_from}
use Rattle.share_plans.proofs.BestRows.{best-division, length-rows, no-division}
use Rattle.share_plans.proofs.division.divide.Goals as goal

pub returns-then-is_none-clause-none : goal.returns-then-is_none-clause-none
returns-then-is_none-clause-none c = λ _. no-division c.args.goal c.args.demands.now c.in_ok-rows.rows.items c.index.result.now c.args.ways c.requires.ways c.in_ok-rows.ensures c.index.ensures
    (c.is_none.ensures ∙ ap not c.if-is_none.true)

pub index-requires : goal.index-requires
index-requires c = omega (arith, length-rows c.args.goal c.args.demands.now c.in_ok-rows.rows.items c.in_ok-rows.ensures, c.in_ok-rows.rows.ok.0)

pub returns-clause-best : goal.returns-clause-best
returns-clause-best c =
    let table = c.in_ok-rows.rows.items in
    let counts = counts_from c.args.demands.now table c.args.ways in
    let is = c.in_ok-push_counts.ensures ∙ (ap (λ (l : List ℕ). l ++ counts_from c.args.demands.now c.deref.result.now c.args.ways) c.new-counts.ensures.items
    ∙ ap (λ (t : List (List (Option Choice))). counts_from c.args.demands.now t c.args.ways) c.deref.ensures.value) in
    subst (λ (l : List ℕ). IsBestDivision c.args.goal c.args.ways c.args.demands.now l) (sym is)
    (best-division c.args.goal c.args.demands.now table c.index.result.now c.args.ways c.requires.ways c.in_ok-rows.ensures c.index.ensures
    (c.is_none.ensures ∙ ap not c.if-is_none.false))
