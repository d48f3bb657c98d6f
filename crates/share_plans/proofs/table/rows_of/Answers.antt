use Rattle.std.proofs.Common.{ℕ, ◌+◌, ◌-◌, ◌≡◌, ◌<◌, List, [], ◌∷◌, ◌++◌, drop, length, replicate, Option, Some, get_or, arith, length-drop, ap, subst, sym, ◌∙◌}
use Rattle.std.proofs.lemmas.List.{drop_all, get_or_default}
use Rattle.share_plans.specs.declared.choice.Choice.{Choice}
use Rattle.share_plans.specs.declared.demand.Demand.{Demand}
use Rattle.share_plans.specs.Rows.{AreRows, nothing}
use Rattle.share_plans.proofs.BestRows.{AreFit-rows, AreRows-cons, length-rows}
use Rattle.share_plans.proofs.table.rows_of.Goals as goal

pub loop-first-init : goal.loop-first-init
loop-first-init c = (
  omega arith,
  rw (drop_all (length c.args.demands.now) c.args.demands.now (omega arith))
      (c.in_ok-push.ensures.items ∙ ap (λ (l : List _). l ++ replicate 33 (Some nothing) ∷ []) c.in_ok-rows.ensures.items),
)

pub row_of-row-requires-clause-next : goal.row_of-row-requires-clause-next
row_of-row-requires-clause-next c =
    AreFit-rows c.args.goal (drop c.loop-first.first c.args.demands.now) c.loop-first.rows.items c.index.result.now (length c.args.demands.now - (c.loop-first.first - 1) - 1) c.loop-first.invariant.1
    (grind (arith, length-drop, c.loop-first-test.true, c.loop-first.invariant.0)) c.index.ensures

pub index-requires : goal.index-requires
index-requires c = omega (arith, length-rows c.args.goal (drop c.loop-first.first c.args.demands.now) c.loop-first.rows.items c.loop-first.invariant.1, c.loop-first.rows.ok.0)

pub loop-first-preserved : goal.loop-first-preserved
loop-first-preserved c =
    let demands = c.args.demands.now in
    let k = c.loop-first.first - 1 in
    let none : Demand = record { weight = 0; least = 0; misses = [] } in
    let d : Demand = get_or demands k none in
    let below : k < length demands = omega (arith, c.loop-first-test.true, c.loop-first.invariant.0) in
    let next : c.loop-first.first ≡ k + 1 = omega (arith, c.loop-first-test.true) in
    let later = subst (λ (n : ℕ). AreRows c.args.goal (drop n demands) c.loop-first.rows.items) next c.loop-first.invariant.1 in
    let after : length demands - k - 1 ≡ length (drop (k + 1) demands) = omega (arith, length-drop (k + 1) demands) in (
      omega (arith, below),
      subst (λ (rows : List (List (Option Choice))). AreRows c.args.goal (drop k demands) rows) (sym {A = List (List (Option Choice))} c.in_ok-insert.ensures.items)
          (AreRows-cons c.args.goal demands d c.loop-first.rows.items c.row_of-row.result c.index.result.now k (length demands - k - 1) below later after c.index.ensures
          (get_or_default demands k none d below) c.row_of-row.ensures.best c.row_of-row.ensures.fit),
    )
