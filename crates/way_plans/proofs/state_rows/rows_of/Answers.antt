use Rattle.std.proofs.Common.{ℕ, ◌+◌, ◌-◌, ◌^◌, ◌≡◌, ◌≤◌, [], drop, All, arith, length-drop, subst, ◌∙◌}
use Rattle.std.proofs.lemmas.List.{get_or_default}
use Rattle.std.proofs.lemmas.List.Elements.{All-drop}
use Rattle.way_plans.specs.Placings.{AreStateRows, first_row}
use Rattle.way_plans.proofs.RowBounds.{AreStateRows-cons, length-first, length-rows, misses-few}
use Rattle.way_plans.proofs.state_rows.rows_of.Goals as goal

pub index-requires : goal.index-requires
index-requires c = omega (arith, length-rows c.args.least c.requires.least c.args.runs.now (drop c.loop-first.first c.args.groups.now) c.loop-first.rows.items c.loop-first.invariant.1)

pub row_of-requires-clause-next : goal.row_of-requires-clause-next
row_of-requires-clause-next c =
    let rows = c.loop-first.rows.items in
    let groups = drop c.loop-first.first c.args.groups.now in
    let first : c.index.result.now ≡ first_row rows = c.index.ensures
    ∙ get_or_default rows 0 c.index.result.now [] (omega (arith, length-rows c.args.least c.requires.least c.args.runs.now groups rows c.loop-first.invariant.1)) in
    rw first (misses-few c.args.least c.requires.least c.args.runs.now groups rows c.loop-first.invariant.1
    (grind (arith, c.requires.few, length-drop)) (All-drop (All (λ n. n ≤ 2 ^ 48)) c.loop-first.first c.args.groups.now c.requires.counts))

pub row_of-requires-clause-states : goal.row_of-requires-clause-states
row_of-requires-clause-states c =
    let rows = c.loop-first.rows.items in
    let groups = drop c.loop-first.first c.args.groups.now in
    let first : c.index.result.now ≡ first_row rows = c.index.ensures
    ∙ get_or_default rows 0 c.index.result.now [] (omega (arith, length-rows c.args.least c.requires.least c.args.runs.now groups rows c.loop-first.invariant.1)) in
    rw first (length-first c.args.least c.requires.least c.args.runs.now groups rows c.loop-first.invariant.1)

pub loop-first-preserved : goal.loop-first-preserved
loop-first-preserved c =
    let rows = c.loop-first.rows.items in
    let next : c.loop-first.first ≡ c.loop-first.first - 1 + 1 = omega (arith, c.loop-first-test.true) in
    let first : c.index.result.now ≡ first_row rows = c.index.ensures
    ∙ get_or_default rows 0 c.index.result.now [] (omega (arith, length-rows c.args.least c.requires.least c.args.runs.now (drop c.loop-first.first c.args.groups.now) rows c.loop-first.invariant.1)) in (
      omega (arith, c.loop-first.invariant.0),
      rw c.in_ok-insert.ensures.items
          (AreStateRows-cons c.args.least c.requires.least c.args.runs.now c.args.groups.now rows c.in_ok-row.row c.index.result.now (c.loop-first.first - 1)
          (omega (arith, c.loop-first-test.true, c.loop-first.invariant.0))
          (subst (λ (k : ℕ). AreStateRows c.args.least c.args.runs.now (drop k c.args.groups.now) rows) next c.loop-first.invariant.1) first c.in_ok-row.ensures),
    )
