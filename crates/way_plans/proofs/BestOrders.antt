-- The best division in any order.
use Rattle.std.proofs.Common.{◌≡◌, ℕ, ◌+◌, ◌-◌, ◌<◌, ◌≤◌, inl, inr, Bool, true, false, List, [], ◌∷◌, length, map, get_or, Option, Some, None, is_some, refl, sym, ap, ◌∙◌, subst, arith}
use Rattle.std.specs.Prelude.{All}
use Rattle.std.proofs.lemmas.List.{get_or_default, length-map}
use Rattle.std.proofs.lemmas.List.Elements.{All-map}
use Rattle.way_plans.specs.AnyOrder.{IsBestInAnyOrder, IsDivisionInAnyOrder}
use Rattle.way_plans.specs.declared.placed.Placed.{Placed}
use Rattle.way_plans.specs.declared.span.Span.{Span}
use Rattle.way_plans.specs.Divisions.{AreFree, IsSpan, end, misses_of}
use Rattle.way_plans.specs.Placings.{AreStateRows, at, first_row, left_at, spans_at}
use Rattle.way_plans.specs.Runs.{runs_of, states_of}
use Rattle.way_plans.proofs.BestSpans.{within-free}
use Rattle.way_plans.proofs.Lefts.{left_at-all, states_of-some}
use Rattle.way_plans.proofs.Homes.{given_of, run_at-ends, taken-le}
use Rattle.way_plans.proofs.RunLists.{AreRuns, AreRuns-below, IsInSome, IsInSome-runs, within-runs}
use Rattle.way_plans.proofs.RowBounds.{length-rows}
use Rattle.way_plans.proofs.StateRows.{Tells, Tells-rows}
use Rattle.way_plans.proofs.Takings.{IsGiven, given_misses}

-- ---- what a division takes of the runs

given_misses-of : (runs : List Span) (groups : List (List ℕ)) (spans : List Span) → given_misses groups (map (given_of runs) spans) ≡ misses_of groups spans
given_misses-of runs [] spans = refl
given_misses-of runs (group ∷ groups) [] = refl
given_misses-of runs (group ∷ groups) (span ∷ spans) = ap (λ (n : ℕ). get_or group span.count 0 + n) (given_misses-of runs groups spans)

-- what lies in runs is free
free-inside : (free : List Bool) (bound : ℕ) (runs : List Span) (span : Span) → AreRuns free bound runs → IsInSome span runs → AreFree free span.first span.count
free-inside free bound [] span are is = absurd is
free-inside free bound (run ∷ runs) span are (inl is) = λ way above below. are.0.free_ways way (omega (arith, above, is.begins)) (omega (arith, below, is.ends))
free-inside free bound (run ∷ runs) span are (inr is) = free-inside free run.first runs span are.1 is

module _ (free : List Bool) (least : ℕ) (some : 1 ≤ least) (groups : List (List ℕ)) where
  lie : AreRuns free (length free + 1) (runs_of free)
  lie = AreRuns-below free (length free)

  ends : (span : Span) → IsSpan free least 0 span → end span ≤ length free
  ends span is =
      let last : span.first + span.count - 1 < length free = within-free free (span.first + span.count - 1)
      (is.free_ways (span.first + span.count - 1) (omega (arith, is.enough, some)) (omega (arith, is.enough, some))) in
      omega (arith, last)

  -- what a division in any order takes of the runs
  IsGiven-division : (spans : List Span) → IsDivisionInAnyOrder free least groups spans → IsGiven least (runs_of free) groups (map (given_of (runs_of free)) spans)
  IsGiven-division spans is = record {
    all = length-map spans (given_of (runs_of free)) ∙ is.all;
    enough = All-map (λ (g : ℕ × ℕ). least ≤ g.1) (given_of (runs_of free)) spans (λ k d within. (is.each k d within).enough);
    within = taken-le (runs_of free) (length free) spans (λ piece. run_at-ends (runs_of free) (length free) piece (within-runs free (length free + 1) (length free) (runs_of free) (omega arith) lie))
        (λ k d within. IsInSome-runs free (length free) (get_or spans k d) (omega (arith, some, (is.each k d within).enough)) (ends (get_or spans k d) (is.each k d within)) (is.each k d within).free_ways)
        (λ k d within. ends (get_or spans k d) (is.each k d within)) is.apart;
  }

  module _ (rows : List (List (Option Placed))) (are : AreStateRows least (runs_of free) groups rows) (last : ℕ) (is_last : last ≡ states_of (runs_of free) - 1) where
    told : Tells least some (runs_of free) groups rows last (at (first_row rows) last)
    told = Tells-rows least some (runs_of free) free (length free + 1) lie groups rows are last (omega (arith, is_last, states_of-some (runs_of free)))

    all-left : left_at (runs_of free) last ≡ runs_of free
    all-left = ap (left_at (runs_of free)) is_last ∙ left_at-all (runs_of free)

    -- the rows tell none where there is none
    none-in-any-order : is_some (at (first_row rows) last) ≡ false → (spans : List Span) → IsDivisionInAnyOrder free least groups spans → ⊥
    none-in-any-order none spans is = by (at (first_row rows) last) told none
      where
        by : (best : Option Placed) → Tells least some (runs_of free) groups rows last best → is_some best ≡ false → ⊥
        by None tells h = tells (map (given_of (runs_of free)) spans) (subst (λ (l : List Span). IsGiven least l groups (map (given_of (runs_of free)) spans)) (sym all-left) (IsGiven-division spans is))
        by (Some placed) tells h = absurd cc

    -- and else tell the best
    best-in-any-order : is_some (at (first_row rows) last) ≡ true → IsBestInAnyOrder free least groups (spans_at groups rows last)
    best-in-any-order is_any = by (at (first_row rows) last) told is_any
      where
        by : (best : Option Placed) → Tells least some (runs_of free) groups rows last best → is_some best ≡ true → IsBestInAnyOrder free least groups (spans_at groups rows last)
        by None h is = absurd cc
        by (Some placed) h is =
            let inside : All (λ (span : Span). IsInSome span (runs_of free)) (spans_at groups rows last) =
            subst (λ (l : List Span). All (λ (span : Span). IsInSome span l) (spans_at groups rows last)) all-left h.inside in
            record {
              division = record {
                all = h.all;
                each = λ k d within. record {
                  above = omega arith;
                  enough = h.enough k d within;
                  free_ways = free-inside free (length free + 1) (runs_of free) (get_or (spans_at groups rows last) k d) lie (inside k d within);
                };
                apart = h.apart;
              };
              best = λ others other.
                  let fewest : placed.misses ≤ given_misses groups (map (given_of (runs_of free)) others) =
                  h.best (map (given_of (runs_of free)) others) (subst (λ (l : List Span). IsGiven least l groups (map (given_of (runs_of free)) others)) (sym all-left) (IsGiven-division others other)) in
                  omega (arith, h.same, fewest, given_misses-of (runs_of free) groups others);
            }

    module _ (front : List (Option Placed)) (first : front ≡ get_or rows 0 front) where
      is-front : front ≡ first_row rows
      is-front = first ∙ get_or_default rows 0 front [] (omega (arith, length-rows least some (runs_of free) groups rows are))

      pub no-division-in-any-order : is_some (at front last) ≡ false → (spans : List Span) → IsDivisionInAnyOrder free least groups spans → ⊥
      no-division-in-any-order none = none-in-any-order (subst (λ (row : List (Option Placed)). is_some (at row last) ≡ false) is-front none)

      pub best-division-in-any-order : is_some (at front last) ≡ true → IsBestInAnyOrder free least groups (spans_at groups rows last)
      best-division-in-any-order any = best-in-any-order (subst (λ (row : List (Option Placed)). is_some (at row last) ≡ true) is-front any)
