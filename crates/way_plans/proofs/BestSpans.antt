-- The best choice of a row for the ways from one on, as spans are tried.
use Rattle.std.proofs.Common.{◌≡◌, ◌≢◌, ◌⊎◌, inl, inr, ℕ, zero, suc, ◌+◌, ◌-◌, ◌<◌, ◌≤◌, Bool, true, false, List, [], ◌∷◌, length, get_or, slice_set as set, Option, Some, None, IfSome, sym, subst, arith}
use Rattle.std.proofs.lemmas.Bool.Decides.{eqb_tells}
use Rattle.std.proofs.Math.Dec.{eqb}
use Rattle.std.proofs.lemmas.List.{get_or-set_other}
use Rattle.std.proofs.lemmas.Grind.{get_or-set_at}
use Rattle.way_plans.specs.declared.choice.Choice.{Choice}
use Rattle.way_plans.specs.declared.span.Span.{Span}
use Rattle.way_plans.specs.Divisions.{IsSpan, end}
use Rattle.way_plans.specs.Rows.{IsBestFrom, IsNoBetter, at, better, choice_of}
use Rattle.way_plans.proofs.BestChoices.{IfSome-better, IsNoBetter-first, IsNoBetter-second}

-- a way that is free is one of the ways
pub within-free : (free : List Bool) (way : ℕ) → get_or free way false ≡ true → way < length free
within-free [] zero is = absurd cc
within-free [] (suc way) is = absurd cc
within-free (f ∷ free) zero is = omega arith
within-free (f ∷ free) (suc way) is = omega (arith, within-free free way is)

module _ (free : List Bool) (least : ℕ) (some : 1 ≤ least) where
  -- a span ends where there are ways
  pub end-free : (from : ℕ) (span : Span) → IsSpan free least from span → end span ≤ length free
  end-free from span is =
      let last : span.first + span.count - 1 < length free = within-free free (span.first + span.count - 1)
      (is.free_ways (span.first + span.count - 1) (omega (arith, is.enough, some)) (omega (arith, is.enough, some))) in
      omega (arith, last)

  -- no span begins behind the last way
  IsSpan-none : (from : ℕ) (span : Span) → length free ≤ from → IsSpan free least from span → ⊥
  IsSpan-none from span behind is = absurd (omega (arith, end-free from span is, is.above, is.enough, some, behind))

  -- a span from a way on is one from a lower way on
  IsSpan-lower : (from lower : ℕ) (span : Span) → lower ≤ from → IsSpan free least from span → IsSpan free least lower span
  IsSpan-lower from lower span below is = record { above = omega (arith, is.above, below); enough = is.enough; free_ways = is.free_ways }

  -- ---- one row

  module _ (group : List ℕ) (next : List (Option Choice)) where
    -- behind the last way there is no choice
    pub IsBestFrom-none : (from : ℕ) (best : Option Choice) → best ≡ None → length free ≤ from → IsBestFrom free least group next from best
    IsBestFrom-none from best none behind = rw none (record { chosen = tt; others = λ span is. absurd (IsSpan-none from span behind is) })

    -- the better of the best that begins at a way and the best behind it
    pub IsBestFrom-better : (from : ℕ) (here behind : Option Choice)
        → IfSome here (λ choice. (IsSpan free least from choice.span) × (choice_of group next choice.span ≡ Some choice))
        → ((span : Span) → IsSpan free least from span → span.first ≡ from → IsNoBetter (choice_of group next span) here)
        → IsBestFrom free least group next (from + 1) behind → IsBestFrom free least group next from (better here behind)
    IsBestFrom-better from here behind chosen others rest = record {
      chosen = IfSome-better (λ choice. (IsSpan free least from choice.span) × (choice_of group next choice.span ≡ Some choice)) here behind chosen (lower behind rest.chosen);
      others = λ span is. at_first span is (eqb_tells span.first from);
    }
      where
        lower : (best : Option Choice) → IfSome best (λ choice. (IsSpan free least (from + 1) choice.span) × (choice_of group next choice.span ≡ Some choice))
            → IfSome best (λ choice. (IsSpan free least from choice.span) × (choice_of group next choice.span ≡ Some choice))
        lower None h = tt
        lower (Some choice) h = (IsSpan-lower (from + 1) from choice.span (omega arith) h.0, h.1)

        at_first : (span : Span) → IsSpan free least from span → ((eqb span.first from ≡ true) × (span.first ≡ from)) ⊎ ((eqb span.first from ≡ false) × (span.first ≢ from))
            → IsNoBetter (choice_of group next span) (better here behind)
        at_first span is (inl here_first) = IsNoBetter-first (choice_of group next span) here behind (others span is here_first.1)
        at_first span is (inr later) = IsNoBetter-second (choice_of group next span) here behind
            (rest.others span (record { above = omega (arith, is.above, later.1); enough = is.enough; free_ways = is.free_ways }))

    -- the row in which the best from a way on is put beside those behind it
    pub IsBestFrom-set : (row : List (Option Choice)) (way : ℕ) (best : Option Choice) → way < length row → IsBestFrom free least group next way best
        → ((from : ℕ) → way + 1 ≤ from → IsBestFrom free least group next from (at row from)) → (from : ℕ) → way ≤ from → IsBestFrom free least group next from (at (set row way best) from)
    IsBestFrom-set row way best within is rest from behind = by (eqb_tells from way)
      where
        by : ((eqb from way ≡ true) × (from ≡ way)) ⊎ ((eqb from way ≡ false) × (from ≢ way)) → IsBestFrom free least group next from (at (set row way best) from)
        by (inl same) = rw (get_or-set_at row way from best None same.1 within) (subst (λ (n : ℕ). IsBestFrom free least group next n best) (sym same.1) is)
        by (inr other) = rw (get_or-set_other row way from best None other.1) (rest from (omega (arith, behind, other.1)))
