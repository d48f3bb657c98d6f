use Rattle.std.proofs.Common.{ℕ, ◌+◌, ◌-◌, ◌^◌, ◌≡◌, ◌≤◌, List, [], ◌∷◌, ◌++◌, drop, length, replicate, All, Some, arith, length-drop, ap, subst, ◌∙◌}
use Rattle.std.proofs.lemmas.List.{drop_all}
use Rattle.std.proofs.lemmas.List.Elements.{All-drop}
use Rattle.way_plans.specs.Rows.{AreRows, nothing}
use Rattle.way_plans.proofs.BestRows.{AreRows-cons, misses-few}
use Rattle.way_plans.proofs.table.rows_of.Goals as goal

pub loop-first-init : goal.loop-first-init
loop-first-init c = (
  omega arith,
  rw (drop_all (length c.args.groups.now) c.args.groups.now (omega arith))
      (c.in_ok-push.ensures.items ∙ ap (λ (l : List _). l ++ replicate 33 (Some nothing) ∷ []) c.in_ok-rows.ensures.items),
)

pub row_of-row-requires-clause-next : goal.row_of-row-requires-clause-next
row_of-row-requires-clause-next c =
    misses-few c.args.free.now c.args.least c.requires.least (drop c.loop-first.first c.args.groups.now) c.loop-first.rows.items c.index.result.now c.loop-first.invariant.1
    (grind (arith, c.requires.few, length-drop)) (All-drop (All (λ n. n ≤ 2 ^ 48)) c.loop-first.first c.args.groups.now c.requires.counts) c.index.ensures

pub loop-first-preserved : goal.loop-first-preserved
loop-first-preserved c =
    let next : c.loop-first.first ≡ c.loop-first.first - 1 + 1 = omega (arith, c.loop-first-test.true) in (
      omega (arith, c.loop-first.invariant.0),
      rw c.in_ok-insert.ensures.items
          (AreRows-cons c.args.free.now c.args.least c.requires.least c.args.groups.now c.loop-first.rows.items c.row_of-row.result c.index.result.now (c.loop-first.first - 1)
          (omega (arith, c.loop-first-test.true, c.loop-first.invariant.0))
          (subst (λ (k : ℕ). AreRows c.args.free.now c.args.least (drop k c.args.groups.now) c.loop-first.rows.items) next c.loop-first.invariant.1) c.index.ensures c.row_of-row.ensures),
    )
