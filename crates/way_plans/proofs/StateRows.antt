-- Rows of the table of all orders, and the divisions that they tell.
use Rattle.std.proofs.Common.{◌≡◌, ℕ, ◌+◌, ◌-◌, ◌*◌, ◌<◌, ◌≤◌, Bool, List, [], ◌∷◌, length, get_or, Option, Some, None, refl, sym, ap, ◌∙◌, subst, arith}
use Rattle.std.specs.Prelude.{All, AllPairs}
use Rattle.std.proofs.lemmas.List.{get_or-replicate}
use Rattle.std.proofs.lemmas.List.Elements.{All-cons, All-head, All-nil}
use Rattle.std.proofs.lemmas.List.Kept.{AllPairs-cons}
use Rattle.std.proofs.lemmas.Option.{same_Some, none-some}
use Rattle.way_plans.specs.AnyOrder.{AreApart}
use Rattle.way_plans.specs.declared.placed.Placed.{Placed}
use Rattle.way_plans.specs.declared.span.Span.{Span}
use Rattle.way_plans.specs.Divisions.{misses_of}
use Rattle.way_plans.specs.Placings.{AreStateRows, BeatsAmong, IsBestAmong, IsNoFewer, at, done, first_row, left_at, placed_at, spans_at, with_rest}
use Rattle.way_plans.specs.Runs.{states_of}
use Rattle.way_plans.proofs.Lefts.{AreApart-shrunk, AreBelow, AreBelow-left, IsInSome-lowest, IsInSome-shrunk, count_at, left_at-shrunk, shrunk, stride_at}
use Rattle.way_plans.proofs.Homes.{taken}
use Rattle.way_plans.proofs.RunLists.{AreRuns, IsInSome}
use Rattle.way_plans.proofs.Takings.{IsGiven, IsGiven-rest, IsPlacedBy, beaten-by, by-piece, given_misses, taken-own}

module _ (least : ℕ) (some : 1 ≤ least) (runs : List Span) where
  -- What the rows tell in a state: the spans lie in what is left of the runs, and apart, and none have fewer misses.
  pub record IsTold (groups : List (List ℕ)) (rows : List (List (Option Placed))) (state : ℕ) (placed : Placed) : Type 0 where
    pub all : length (spans_at groups rows state) ≡ length groups
    pub same : misses_of groups (spans_at groups rows state) ≡ placed.misses
    pub enough : All (λ (span : Span). least ≤ span.count) (spans_at groups rows state)
    pub inside : All (λ (span : Span). IsInSome span (left_at runs state)) (spans_at groups rows state)
    pub apart : AllPairs AreApart (spans_at groups rows state)
    pub best : (given : List (ℕ × ℕ)) → IsGiven least (left_at runs state) groups given → placed.misses ≤ given_misses groups given

  abbrev pub Tells : List (List ℕ) → List (List (Option Placed)) → ℕ → Option Placed → Type 0
  Tells groups rows state None = (given : List (ℕ × ℕ)) → IsGiven least (left_at runs state) groups given → ⊥
  Tells groups rows state (Some placed) = IsTold groups rows state placed

  Tells-done : (rows : List (List (Option Placed))) (state : ℕ) → Tells [] rows state (Some done)
  Tells-done rows state = record {
    all = refl;
    same = refl;
    enough = All-nil (λ (span : Span). least ≤ span.count);
    inside = All-nil (λ (span : Span). IsInSome span (left_at runs state));
    apart = λ i j d lt within. absurd (omega (arith, within));
    best = λ given is. omega arith;
  }

  -- it is one, and has at most so many misses
  abbrev HasAtMost : Option Placed → ℕ → Type 0
  HasAtMost None misses = ⊥
  HasAtMost (Some placed) misses = placed.misses ≤ misses

  module _ (group : List ℕ) (groups : List (List ℕ)) (row : List (Option Placed)) (rows : List (List (Option Placed))) where
    has-at-most : (best : Option Placed) (span : Span) (count rest : ℕ) (later : Placed) (misses : ℕ) → span.count ≡ count → later.misses ≤ misses → IsNoFewer (with_rest group span rest (Some later)) best
        → HasAtMost best (get_or group count 0 + misses)
    has-at-most None span count rest later misses same le h = h
    has-at-most (Some best) span count rest later misses same le h =
        let own : get_or group span.count 0 ≡ get_or group count 0 = ap (λ (n : ℕ). get_or group n 0) same in omega (arith, own, le, h)

    -- no division of what is left has fewer misses than the best
    beats : (state : ℕ) (best : Option Placed) → BeatsAmong least group (first_row rows) state runs 1 state best → ((s : ℕ) → s ≤ state → Tells groups rows s (at (first_row rows) s))
        → (given : List (ℕ × ℕ)) → IsGiven least (left_at runs state) (group ∷ groups) given → HasAtMost best (given_misses (group ∷ groups) given)
    beats state best beat told [] is = absurd (omega (arith, is.all))
    beats state best beat told ((place, count) ∷ given) is =
        let enough : least ≤ count = All-head (λ (g : ℕ × ℕ). least ≤ g.1) (place, count) given is.enough in
        let own : taken place ((place, count) ∷ given) ≤ count_at (left_at runs state) place = is.within place in
        let le : count ≤ count_at (left_at runs state) place = omega (arith, own, taken-own place count given) in
        let steps = left_at-shrunk runs state place count le in
        let rest : ℕ = state - count * stride_at runs place in
        let later : IsGiven least (left_at runs rest) groups given = subst (λ (l : List Span). IsGiven least l groups given) (sym steps.1) (IsGiven-rest least (left_at runs state) group groups place count given is) in
        let one : 1 * stride_at runs place ≡ stride_at runs place = omega arith in
        beaten-by least group (first_row rows) state runs 1 state best beat place count (omega (arith, some, enough)) enough le (HasAtMost best (get_or group count 0 + given_misses groups given))
        (λ span same h. by rest (at (first_row rows) rest) (told rest (omega arith)) later span same
        (subst (λ (n : ℕ). IsNoFewer (placed_at group (first_row rows) (state - count * n) span) best) one h))
      where
        by : (rest : ℕ) (next : Option Placed) → Tells groups rows rest next → IsGiven least (left_at runs rest) groups given → (span : Span) → span.count ≡ count → IsNoFewer (with_rest group span rest next) best
            → HasAtMost best (get_or group count 0 + given_misses groups given)
        by rest None tells later span same h = absurd (tells given later)
        by rest (Some next) tells later span same h = has-at-most best span count rest next (given_misses groups given) same (tells.best given later) h

    -- what follows a place
    followed : (rest : ℕ) (next : Option Placed) (placed : Placed) → Tells groups rows rest next → with_rest group placed.span rest next ≡ Some placed
        → (placed.rest ≡ rest) × ((R : Type 0) → ((later : Placed) → IsTold groups rows rest later → get_or group placed.span.count 0 + later.misses ≡ placed.misses → R) → R)
    followed rest None placed tells is = absurd (none-some placed is)
    followed rest (Some later) placed tells is =
        let same = same_Some _ placed is in (sym (ap (λ (p : Placed). p.rest) same), λ R then. then later tells (ap (λ (p : Placed). p.misses) same))

    Tells-cons : (state : ℕ) (best : Option Placed) → AreBelow (left_at runs state) → at row state ≡ best → IsBestAmong least group (first_row rows) state runs 1 state best
        → ((s : ℕ) → s ≤ state → Tells groups rows s (at (first_row rows) s)) → Tells (group ∷ groups) (row ∷ rows) state best
    Tells-cons state None below at_row is told = λ given has. beats state None is.beats told given has
    Tells-cons state (Some placed) below at_row is told = by-piece least group (first_row rows) state runs 1 state placed (IsTold (group ∷ groups) (row ∷ rows) state placed) at_piece is.placed
      where
        at_piece : (piece : ℕ) → IsPlacedBy least group (first_row rows) state runs 1 state piece placed → IsTold (group ∷ groups) (row ∷ rows) state placed
        at_piece piece h =
            let steps = left_at-shrunk runs state piece placed.span.count h.within in
            let rest : ℕ = state - placed.span.count * stride_at runs piece in
            let one : 1 * stride_at runs piece ≡ stride_at runs piece = omega arith in
            let is_rest : placed_at group (first_row rows) rest placed.span ≡ Some placed = ap (λ (n : ℕ). placed_at group (first_row rows) (state - placed.span.count * n) placed.span) (sym one) ∙ h.rest in
            let follows = followed rest (at (first_row rows) rest) placed (told rest (omega arith)) is_rest in
            follows.1 (IsTold (group ∷ groups) (row ∷ rows) state placed) (λ later tells sum. with_later (subst (λ (n : ℕ). IsTold groups rows n later) (sym follows.0) tells) sum
            (ap (left_at runs) follows.0 ∙ steps.1))
          where
            with_later : {later : Placed} → IsTold groups rows placed.rest later → get_or group placed.span.count 0 + later.misses ≡ placed.misses
                → left_at runs placed.rest ≡ shrunk (left_at runs state) piece placed.span.count → IsTold (group ∷ groups) (row ∷ rows) state placed
            with_later tells sum left =
                let any : 1 ≤ placed.span.count = omega (arith, some, h.enough) in
                let spans : List Span = spans_at groups rows placed.rest in
                let behind : All (λ (span : Span). IsInSome span (shrunk (left_at runs state) piece placed.span.count)) spans =
                subst (λ (l : List Span). All (λ (span : Span). IsInSome span l) spans) left tells.inside in
                record {
                  all = rw at_row (omega (arith, tells.all));
                  same = rw at_row (omega (arith, tells.same, sum));
                  enough = rw at_row (All-cons (λ (span : Span). least ≤ span.count) placed.span spans h.enough tells.enough);
                  inside = rw at_row (All-cons (λ (span : Span). IsInSome span (left_at runs state)) placed.span spans (IsInSome-lowest (left_at runs state) piece placed.span h.begins any h.within)
                      (λ k d within. IsInSome-shrunk (left_at runs state) piece placed.span.count (get_or spans k d) h.within (behind k d within)));
                  apart = rw at_row (AllPairs-cons AreApart placed.span spans
                      (λ k d within. AreApart-shrunk (left_at runs state) piece placed.span (get_or spans k d) below h.begins any h.within (behind k d within)) tells.apart);
                  best = λ given has. beats state (Some placed) is.beats told given has;
                }

  -- the rows tell the best divisions of what is left in each state
  pub Tells-rows : (free : List Bool) (bound : ℕ) → AreRuns free bound runs → (groups : List (List ℕ)) (rows : List (List (Option Placed))) → AreStateRows least runs groups rows
      → (state : ℕ) → state < states_of runs → Tells groups rows state (at (first_row rows) state)
  Tells-rows free bound lie [] rows are state within =
      let last : at (first_row rows) state ≡ Some done = ap (λ (all : List (List (Option Placed))). at (first_row all) state) are ∙ get_or-replicate (states_of runs) state (Some done) None within in
      rw last (Tells-done rows state)
  Tells-rows free bound lie (group ∷ groups) [] are state within = absurd are
  Tells-rows free bound lie (group ∷ groups) (row ∷ rows) are state within =
      Tells-cons group groups row rows state (at row state) (AreBelow-left free bound runs state lie) refl (are.0.best state within)
      (λ s le. Tells-rows free bound lie groups rows are.1 s (omega (arith, le, within)))
