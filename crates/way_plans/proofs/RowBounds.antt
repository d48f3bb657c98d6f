-- How many rows the table of all orders has, how long they are, and how few the misses in them are.
use Rattle.std.proofs.Common.{◌≡◌, ℕ, zero, suc, ◌+◌, ◌-◌, ◌*◌, ◌^◌, ◌<◌, ◌≤◌, ◌⊎◌, inl, inr, true, false, List, [], ◌∷◌, length, drop, get_or, Option, Some, None, IfSome, sym, ap, ◌∙◌, subst, arith}
use Rattle.std.specs.Prelude.{All}
use Rattle.std.proofs.Math.Dec.{leb}
use Rattle.std.proofs.lemmas.Bool.Decides.{leb_tells}
use Rattle.std.proofs.lemmas.List.{drop_more, get_or-replicate, length-replicate}
use Rattle.std.proofs.Math.ListN.{get_or-eq_default}
use Rattle.std.proofs.lemmas.List.Elements.{All-head, All-tail}
use Rattle.std.proofs.lemmas.Option.{same_Some, none-some}
use Rattle.way_plans.specs.declared.placed.Placed.{Placed}
use Rattle.way_plans.specs.declared.span.Span.{Span}
use Rattle.way_plans.specs.Placings.{AreStateRows, IsPlacedAmong, IsStateRow, at, done, first_row, with_rest}
use Rattle.way_plans.specs.Runs.{states_of}
use Rattle.way_plans.proofs.Lefts.{stride_at}
use Rattle.way_plans.proofs.Takings.{by-piece}

module _ (least : ℕ) (some : 1 ≤ least) (runs : List Span) where
  module _ (most : ℕ) where
    get_or-bounded : (group : List ℕ) (k : ℕ) → All (λ n. n ≤ most) group → get_or group k 0 ≤ most
    get_or-bounded [] k few = omega arith
    get_or-bounded (n ∷ group) zero few = All-head (λ n. n ≤ most) n group few
    get_or-bounded (n ∷ group) (suc k) few = get_or-bounded group k (All-tail (λ n. n ≤ most) n group few)

    sum-bounded : (group : List ℕ) (span : Span) (rest bound : ℕ) (next : Option Placed) (placed : Placed) → All (λ n. n ≤ most) group → IfSome next (λ p. p.misses ≤ bound)
        → with_rest group span rest next ≡ Some placed → placed.misses ≤ bound + most
    sum-bounded group span rest bound None placed few known is = absurd (none-some placed is)
    sum-bounded group span rest bound (Some next) placed few known is =
        let sum : get_or group span.count 0 + next.misses ≡ placed.misses = ap (λ (p : Placed). p.misses) (same_Some _ placed is) in
        omega (arith, get_or-bounded group span.count few, known, sum)

    misses-bounded : (groups : List (List ℕ)) (rows : List (List (Option Placed))) → AreStateRows least runs groups rows → All (All (λ n. n ≤ most)) groups
        → (state : ℕ) → state < states_of runs → IfSome (at (first_row rows) state) (λ p. p.misses ≤ length groups * most)
    misses-bounded [] rows are few state within =
        let last : at (first_row rows) state ≡ Some done = ap (λ (all : List (List (Option Placed))). at (first_row all) state) are ∙ get_or-replicate (states_of runs) state (Some done) None within in
        rw last (omega arith)
    misses-bounded (group ∷ groups) [] are few state within = absurd are
    misses-bounded (group ∷ groups) (row ∷ rows) are few state within =
        by (at row state) (are.0.best state within).placed (misses-bounded groups rows are.1 (All-tail (All (λ n. n ≤ most)) group groups few))
      where
        by : (best : Option Placed) → IfSome best (IsPlacedAmong least group (first_row rows) state runs 1 state)
            → ((s : ℕ) → s < states_of runs → IfSome (at (first_row rows) s) (λ p. p.misses ≤ length groups * most)) → IfSome best (λ p. p.misses ≤ length (group ∷ groups) * most)
        by None h lower = tt
        by (Some placed) h lower = by-piece least group (first_row rows) state runs 1 state placed (placed.misses ≤ length (group ∷ groups) * most)
            (λ piece p.
            let rest : ℕ = state - placed.span.count * (1 * stride_at runs piece) in
            let known : IfSome (at (first_row rows) rest) (λ q. q.misses ≤ length groups * most) = lower rest (omega (arith, within)) in
            let sum : placed.misses ≤ length groups * most + most = sum-bounded group placed.span rest (length groups * most) (at (first_row rows) rest) placed (All-head (All (λ n. n ≤ most)) group groups few) known p.rest in
            let more : suc (length groups) * most ≡ length groups * most + most = omega arith in
            omega (arith, sum, more)) h

  -- ---- what the code asks of rows

  -- there is a row
  pub length-rows : (groups : List (List ℕ)) (rows : List (List (Option Placed))) → AreStateRows least runs groups rows → 1 ≤ length rows
  length-rows [] rows are = rw are (omega arith)
  length-rows (group ∷ groups) [] are = absurd are
  length-rows (group ∷ groups) (row ∷ rows) are = omega arith

  -- it has each state
  pub length-first : (groups : List (List ℕ)) (rows : List (List (Option Placed))) → AreStateRows least runs groups rows → length (first_row rows) ≡ states_of runs
  length-first [] rows are = ap (λ (all : List (List (Option Placed))). length (first_row all)) are ∙ length-replicate (states_of runs) (Some done)
  length-first (group ∷ groups) [] are = absurd are
  length-first (group ∷ groups) (row ∷ rows) are = are.0.states

  -- its choices have so few misses that one group more may be added
  pub misses-few : (groups : List (List ℕ)) (rows : List (List (Option Placed))) → AreStateRows least runs groups rows → length groups ≤ 64 → All (All (λ n. n ≤ 2 ^ 48)) groups
      → (state : ℕ) → IfSome (at (first_row rows) state) (λ placed. placed.misses ≤ 2 ^ 60)
  misses-few groups rows are few counts state = by (leb_tells (state + 1) (states_of runs))
    where
      fewer : (best : Option Placed) → IfSome best (λ placed. placed.misses ≤ length groups * 2 ^ 48) → IfSome best (λ placed. placed.misses ≤ 2 ^ 60)
      fewer None h = tt
      fewer (Some placed) h = omega (arith, h, few)

      by : ((leb (state + 1) (states_of runs) ≡ true) × (state + 1 ≤ states_of runs)) ⊎ ((leb (state + 1) (states_of runs) ≡ false) × (states_of runs < state + 1))
          → IfSome (at (first_row rows) state) (λ placed. placed.misses ≤ 2 ^ 60)
      by (inl within) = fewer (at (first_row rows) state) (misses-bounded (2 ^ 48) groups rows are counts state (omega (arith, within.1)))
      by (inr past) =
          let none : at (first_row rows) state ≡ None = get_or-eq_default (first_row rows) None {n = state} (omega (arith, past.1, length-first groups rows are)) in
          rw none tt

  -- a row more in front
  pub AreStateRows-cons : (groups : List (List ℕ)) (rows : List (List (Option Placed))) (front next : List (Option Placed)) (k : ℕ) → k < length groups → AreStateRows least runs (drop (k + 1) groups) rows
      → next ≡ first_row rows → IsStateRow least runs (get_or groups k []) next front → AreStateRows least runs (drop k groups) (front ∷ rows)
  AreStateRows-cons groups rows front next k within are first row =
      subst (λ (gs : List (List ℕ)). AreStateRows least runs gs (front ∷ rows)) (sym (drop_more groups k [] within))
      (subst (λ (n : List (Option Placed)). IsStateRow least runs (get_or groups k []) n front) first row, are)
