-- Rows of the table, and the divisions that they tell.
use Rattle.std.proofs.Common.{◌≡◌, ◌⊎◌, inl, inr, ℕ, ◌+◌, ◌-◌, ◌*◌, ◌^◌, ◌<◌, ◌≤◌, Bool, true, false, List, [], ◌∷◌, length, replicate, drop, get_or, Option, Some, None, IfSome, All, is_some, refl, sym, ap, ◌∙◌, subst, arith}
use Rattle.std.proofs.lemmas.Bool.Decides.{leb_tells}
use Rattle.std.proofs.Math.Dec.{leb}
use Rattle.std.proofs.lemmas.List.Elements.{All-cons, All-from_get_or, All-get_or, All-head, All-nil, All-replicate, All-tail}
use Rattle.std.proofs.Math.ListN.{get_or-eq_default}
use Rattle.std.proofs.lemmas.List.{drop_more, get_or-replicate, get_or_default}
use Rattle.std.proofs.lemmas.Option.{same_Some, none-some}
use Rattle.way_plans.specs.declared.choice.Choice.{Choice}
use Rattle.way_plans.specs.declared.span.Span.{Span}
use Rattle.way_plans.specs.Divisions.{IsBestDivision, IsDivision, IsSpan, end, misses_of}
use Rattle.way_plans.specs.Rows.{AreRows, AreWithin, IsBestFrom, IsNoBetter, at, better, choice_of, first_row, nothing, spans_from, with_span}
use Rattle.way_plans.proofs.BestSpans.{end-free}

-- a row of no choices has none
pub at-none : (way : ℕ) → at (replicate 33 None) way ≡ None
at-none way = by (leb_tells (way + 1) 33)
  where
    by : ((leb (way + 1) 33 ≡ true) × (way + 1 ≤ 33)) ⊎ ((leb (way + 1) 33 ≡ false) × (33 < way + 1)) → at (replicate 33 None) way ≡ None
    by (inl within) = get_or-replicate 33 way None None (omega (arith, within.1))
    by (inr past) = get_or-eq_default (replicate 33 None) None {n = way} (omega (arith, past.1))

module _ (free : List Bool) (least : ℕ) (some : 1 ≤ least) where
  -- ---- all rows

  -- A choice that the rows tell from a way on: its division has its misses, and no other has fewer.
  pub record IsTold (groups : List (List ℕ)) (rows : List (List (Option Choice))) (from : ℕ) (choice : Choice) : Type 0 where
    pub division : IsDivision free least from groups (spans_from groups rows from)
    pub same : misses_of groups (spans_from groups rows from) ≡ choice.misses
    pub best : (others : List Span) → IsDivision free least from groups others → choice.misses ≤ misses_of groups others

  -- what the rows tell from a way on; no division is from there where they tell none
  abbrev pub Tells : List (List ℕ) → List (List (Option Choice)) → ℕ → Option Choice → Type 0
  Tells groups rows from None = (others : List Span) → IsDivision free least from groups others → ⊥
  Tells groups rows from (Some choice) = IsTold groups rows from choice

  -- no group is told to have no misses
  Tells-nothing : (rows : List (List (Option Choice))) (from : ℕ) → Tells [] rows from (Some nothing)
  Tells-nothing rows from = record { division = tt; same = refl; best = λ others is. omega arith }

  module _ (group : List ℕ) (groups : List (List ℕ)) (row : List (Option Choice)) (rows : List (List (Option Choice))) where
    -- a division of one group more has no fewer misses than a choice that its own span is no better than
    behind-some : (best : Choice) (span : Span) (others : List Span) (rest : Option Choice) → Tells groups rows (end span) rest → IsDivision free least (end span) groups others
        → IsNoBetter (with_span group span rest) (Some best) → best.misses ≤ get_or group span.count 0 + misses_of groups others
    behind-some best span others None told is better = absurd (told others is)
    behind-some best span others (Some rest) told is better = omega (arith, told.best others is, better)

    behind-none : (span : Span) (others : List Span) (rest : Option Choice) → Tells groups rows (end span) rest → IsDivision free least (end span) groups others
        → IsNoBetter (with_span group span rest) None → ⊥
    behind-none span others None told is better = told others is
    behind-none span others (Some rest) told is better = better

    -- a choice whose span is followed by what is best behind it
    followed : (from : ℕ) (choice : Choice) (rest : Option Choice) → Tells groups rows (end choice.span) rest → IsSpan free least from choice.span → with_span group choice.span rest ≡ Some choice
        → (IsDivision free least (end choice.span) groups (spans_from groups rows (end choice.span)))
        × (get_or group choice.span.count 0 + misses_of groups (spans_from groups rows (end choice.span)) ≡ choice.misses)
    followed from choice None told is chosen = absurd (none-some choice chosen)
    followed from choice (Some rest) told is chosen = (told.division, ap (λ (n : ℕ). get_or group choice.span.count 0 + n) told.same ∙ ap (λ (c : Choice). c.misses) (same_Some _ choice chosen))

    Tells-cons : (behind : (from : ℕ) → from ≤ length free → Tells groups rows from (at (first_row rows) from)) (from : ℕ) (best : Option Choice) → at row from ≡ best
        → IsBestFrom free least group (first_row rows) from best → Tells (group ∷ groups) (row ∷ rows) from best
    Tells-cons behind from None at_row is = none
      where
        none : (others : List Span) → IsDivision free least from (group ∷ groups) others → ⊥
        none [] h = h
        none (span ∷ others) h = behind-none span others (at (first_row rows) (end span)) (behind (end span) (end-free free least some from span h.0)) h.1 (is.others span h.0)
    Tells-cons behind from (Some choice) at_row is =
        let chosen = is.chosen in
        let rest = followed from choice (at (first_row rows) (end choice.span)) (behind (end choice.span) (end-free free least some from choice.span chosen.0)) chosen.0 chosen.1 in
        record {
          division = rw at_row (chosen.0, rest.0);
          same = rw at_row rest.1;
          best = all;
        }
      where
        all : (others : List Span) → IsDivision free least from (group ∷ groups) others → choice.misses ≤ misses_of (group ∷ groups) others
        all [] h = absurd h
        all (span ∷ others) h = behind-some choice span others (at (first_row rows) (end span)) (behind (end span) (end-free free least some from span h.0)) h.1 (is.others span h.0)

  -- the rows tell the best divisions
  pub Tells-rows : (ways : length free ≤ 32) (groups : List (List ℕ)) (rows : List (List (Option Choice))) → AreRows free least groups rows
      → (from : ℕ) → from ≤ length free → Tells groups rows from (at (first_row rows) from)
  Tells-rows ways [] rows are from within =
      let last : at (first_row rows) from ≡ Some nothing = ap (λ (all : List (List (Option Choice))). at (first_row all) from) are ∙ get_or-replicate 33 from (Some nothing) None (omega (arith, ways, within)) in
      rw last (Tells-nothing rows from)
  Tells-rows ways (group ∷ groups) [] are from within = absurd are
  Tells-rows ways (group ∷ groups) (row ∷ rows) are from within =
      Tells-cons group groups row rows (λ way below. Tells-rows ways groups rows are.1 way below) from (at row from) refl (are.0 from)

  -- ---- bounds

  module _ (most : ℕ) where
    get_or-bounded : (group : List ℕ) (k : ℕ) → All (λ n. n ≤ most) group → get_or group k 0 ≤ most
    get_or-bounded group k few = by (leb_tells (k + 1) (length group))
      where
        by : ((leb (k + 1) (length group) ≡ true) × (k + 1 ≤ length group)) ⊎ ((leb (k + 1) (length group) ≡ false) × (length group < k + 1)) → get_or group k 0 ≤ most
        by (inl within) = All-get_or (λ n. n ≤ most) group k 0 (omega (arith, within.1)) few
        by (inr past) = let none : get_or group k 0 ≡ 0 = get_or-eq_default group 0 {n = k} (omega (arith, past.1)) in omega (arith, none)

    sum-bounded : (group : List ℕ) (span : Span) (bound : ℕ) (choice : Choice) (rest : Option Choice) → get_or group span.count 0 ≤ most
        → IfSome rest (λ c. c.misses ≤ bound) → with_span group span rest ≡ Some choice → choice.misses ≤ bound + most
    sum-bounded group span bound choice None few known is = absurd (none-some choice is)
    sum-bounded group span bound choice (Some c) few known is = omega (arith, few, known, ap (λ (c : Choice). c.misses) (same_Some _ choice is))

    -- a choice has no more misses than the groups may have
    pub misses-bounded : (groups : List (List ℕ)) (rows : List (List (Option Choice))) → AreRows free least groups rows → All (All (λ n. n ≤ most)) groups
        → (way : ℕ) → IfSome (at (first_row rows) way) (λ choice. choice.misses ≤ length groups * most)
    misses-bounded [] rows are few way = rw are (by (leb_tells (way + 1) 33))
      where
        by : ((leb (way + 1) 33 ≡ true) × (way + 1 ≤ 33)) ⊎ ((leb (way + 1) 33 ≡ false) × (33 < way + 1)) → IfSome (at (replicate 33 (Some nothing)) way) (λ choice. choice.misses ≤ 0 * most)
        by (inl within) = rw (get_or-replicate 33 way (Some nothing) None (omega (arith, within.1))) (grind arith)
        by (inr past) = rw (get_or-eq_default (replicate 33 (Some nothing)) None {n = way} (omega (arith, past.1))) tt
    misses-bounded (group ∷ groups) [] are few way = absurd are
    misses-bounded (group ∷ groups) (row ∷ rows) are few way = own (at row way) (are.0 way).chosen (λ span. misses-bounded groups rows are.1 (All-tail (All (λ n. n ≤ most)) group groups few) (end span))
      where
        own : (best : Option Choice) → IfSome best (λ choice. (IsSpan free least way choice.span) × (choice_of group (first_row rows) choice.span ≡ Some choice))
            → ((span : Span) → IfSome (at (first_row rows) (end span)) (λ choice. choice.misses ≤ length groups * most)) → IfSome best (λ choice. choice.misses ≤ length (group ∷ groups) * most)
        own None h known = tt
        own (Some choice) h known =
            let here : get_or group choice.span.count 0 ≤ most = get_or-bounded group choice.span.count (All-head (All (λ n. n ≤ most)) group groups few) in
            let sum : choice.misses ≤ length groups * most + most = sum-bounded group choice.span (length groups * most) choice (at (first_row rows) (end choice.span)) here (known choice.span) h.1 in
            grind (arith, sum)

  -- a choice, if there is one, ends within the ways of a cache
  abbrev Ends : Option Choice → Type 0
  Ends best = IfSome best (λ choice. end choice.span ≤ 32)

  -- each choice does
  pub AreWithin-rows : (ways : length free ≤ 32) (groups : List (List ℕ)) (rows : List (List (Option Choice))) → AreRows free least groups rows → AreWithin rows
  AreWithin-rows ways [] rows are =
      rw are (All-cons (All Ends) (replicate 33 (Some nothing)) [] (All-replicate Ends 33 (Some nothing) (omega arith)) (All-nil (All Ends)))
  AreWithin-rows ways (group ∷ groups) [] are = absurd are
  AreWithin-rows ways (group ∷ groups) (row ∷ rows) are =
      All-cons (All Ends) row rows (All-from_get_or Ends row None (λ k below. own k (at row k) (are.0 k).chosen)) (AreWithin-rows ways groups rows are.1)
    where
      own : (way : ℕ) (best : Option Choice) → IfSome best (λ choice. (IsSpan free least way choice.span) × (choice_of group (first_row rows) choice.span ≡ Some choice))
          → IfSome best (λ choice. end choice.span ≤ 32)
      own way None h = tt
      own way (Some choice) h = omega (arith, end-free free least some way choice.span h.0, ways)

  -- ---- what the code asks of rows

  -- there is a row
  pub length-rows : (groups : List (List ℕ)) (table : List (List (Option Choice))) → AreRows free least groups table → 1 ≤ length table
  length-rows [] table are = rw are (omega arith)
  length-rows (group ∷ groups) [] are = absurd are
  length-rows (group ∷ groups) (front ∷ table) are = omega arith

  -- its choices have so few misses that one group more may be added
  pub misses-few : (groups : List (List ℕ)) (table : List (List (Option Choice))) (front : List (Option Choice)) → AreRows free least groups table → length groups ≤ 64 → All (All (λ n. n ≤ 2 ^ 48)) groups
      → front ≡ get_or table 0 front → (way : ℕ) → IfSome (at front way) (λ choice. choice.misses ≤ 2 ^ 60)
  misses-few groups table front are few counts first way =
      rw (first ∙ get_or_default table 0 front [] (omega (arith, length-rows groups table are))) (fewer (at (first_row table) way) (misses-bounded (2 ^ 48) groups table are counts way))
    where
      fewer : (best : Option Choice) → IfSome best (λ choice. choice.misses ≤ length groups * 2 ^ 48) → IfSome best (λ choice. choice.misses ≤ 2 ^ 60)
      fewer None h = tt
      fewer (Some choice) h = omega (arith, h, few)

  -- a row more in front
  pub AreRows-cons : (groups : List (List ℕ)) (table : List (List (Option Choice))) (front next : List (Option Choice)) (k : ℕ) → k < length groups → AreRows free least (drop (k + 1) groups) table
      → next ≡ get_or table 0 next → ((way : ℕ) → IsBestFrom free least (get_or groups k []) next way (at front way)) → AreRows free least (drop k groups) (front ∷ table)
  AreRows-cons groups table front next k within are first best =
      let here : next ≡ first_row table = first ∙ get_or_default table 0 next [] (omega (arith, length-rows _ table are)) in
      subst (λ (gs : List (List ℕ)). AreRows free least gs (front ∷ table)) (sym (drop_more groups k [] within))
      (subst (λ (n : List (Option Choice)). (way : ℕ) → IsBestFrom free least (get_or groups k []) n way (at front way)) here best, are)

  -- ---- the best division of all

  module _ (ways : length free ≤ 32) (groups : List (List ℕ)) (table : List (List (Option Choice))) (front : List (Option Choice)) (are : AreRows free least groups table) (first : front ≡ get_or table 0 front) where
    told : Tells groups table 0 (at front 0)
    told = rw (first ∙ get_or_default table 0 front [] (omega (arith, length-rows groups table are))) (Tells-rows ways groups table are 0 (omega arith))

    -- the rows tell none where there is none
    pub no-division : is_some (at front 0) ≡ false → (spans : List Span) → IsDivision free least 0 groups spans → ⊥
    no-division none = by (at front 0) told none
      where
        by : (best : Option Choice) → Tells groups table 0 best → is_some best ≡ false → (spans : List Span) → IsDivision free least 0 groups spans → ⊥
        by None h none = h
        by (Some choice) h none = absurd cc

    -- and else tell the best
    pub best-division : is_some (at front 0) ≡ true → IsBestDivision free least groups (spans_from groups table 0)
    best-division some_row = by (at front 0) told some_row
      where
        by : (best : Option Choice) → Tells groups table 0 best → is_some best ≡ true → IsBestDivision free least groups (spans_from groups table 0)
        by None h is = absurd cc
        by (Some choice) h is = record { division = h.division; best = λ others other. omega (arith, h.same, h.best others other) }
