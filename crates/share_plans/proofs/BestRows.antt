-- Rows of the table, and the divisions that they tell.
use Rattle.std.proofs.Common.{◌≡◌, ◌⊎◌, inl, inr, ℕ, suc, ◌+◌, ◌-◌, ◌<◌, ◌≤◌, true, false, List, [], ◌∷◌, length, replicate, drop, get_or, Option, Some, None, IfSome, is_some, refl, sym, ap, ◌∙◌, subst, arith}
use Rattle.std.proofs.lemmas.Bool.Decides.{leb_tells}
use Rattle.std.proofs.Math.Dec.{leb}
use Rattle.std.proofs.Math.ListN.{get_or-eq_default}
use Rattle.std.proofs.lemmas.List.{drop_more, get_or-replicate, get_or_default}
use Rattle.std.proofs.lemmas.Option.{same_Some, none-some}
use Rattle.share_plans.specs.declared.choice.Choice.{Choice}
use Rattle.share_plans.specs.declared.demand.Demand.{Demand}
use Rattle.share_plans.specs.declared.goal.Goal.{Goal}
use Rattle.share_plans.specs.declared.score.Score.{Score}
use Rattle.share_plans.specs.Divisions.{IsBestDivision, IsDivision, misses_with}
use Rattle.share_plans.specs.Rows.{AreFit, AreRows, IsBestFor, IsFit, IsNoBetter, IsWhole, at, choice_of, counts_from, first_row, nothing, with_count}
use Rattle.share_plans.specs.Scores.{IsNoWorse, joined, no_score, score_of, score_one}
use Rattle.share_plans.proofs.Fractions.{IsNoWorse-joined, IsNoWorse-same, IsNoWorse-trans, IsWhole-none, IsWhole-score, IsWhole-some}

-- a row of no choices has none
pub at-none : (ways : ℕ) → at (replicate 33 None) ways ≡ None
at-none ways = by (leb_tells (ways + 1) 33)
  where
    by : ((leb (ways + 1) 33 ≡ true) × (ways + 1 ≤ 33)) ⊎ ((leb (ways + 1) 33 ≡ false) × (33 < ways + 1)) → at (replicate 33 None) ways ≡ None
    by (inl within) = get_or-replicate 33 ways None None (omega (arith, within.1))
    by (inr past) = get_or-eq_default (replicate 33 None) None {n = ways} (omega (arith, past.1))

-- the row of no program
AreFit-nothing : (goal : Goal) → AreFit goal 0 (replicate 33 (Some nothing))
AreFit-nothing goal ways = by (leb_tells (ways + 1) 33)
  where
    by : ((leb (ways + 1) 33 ≡ true) × (ways + 1 ≤ 33)) ⊎ ((leb (ways + 1) 33 ≡ false) × (33 < ways + 1)) → IfSome (at (replicate 33 (Some nothing)) ways) (λ choice. IsFit goal 0 choice.score)
    by (inl within) = rw (get_or-replicate 33 ways (Some nothing) None (omega (arith, within.1))) (record { whole = IsWhole-none goal; part = omega arith })
    by (inr past) = rw (get_or-eq_default (replicate 33 (Some nothing)) None {n = ways} (omega (arith, past.1))) tt

module _ (goal : Goal) where
  -- ---- what the rows tell

  -- A choice that the rows tell for so many ways: its division has its score, and no other is better.
  pub record IsTold (demands : List Demand) (rows : List (List (Option Choice))) (ways : ℕ) (choice : Choice) : Type 0 where
    pub division : IsDivision ways demands (counts_from demands rows ways)
    pub same : score_of goal demands (misses_with demands (counts_from demands rows ways)) ≡ choice.score
    pub best : (others : List ℕ) → IsDivision ways demands others → IsNoWorse choice.score (score_of goal demands (misses_with demands others))

  -- what the rows tell for so many ways; there is no division of them where they tell none
  abbrev pub Tells : List Demand → List (List (Option Choice)) → ℕ → Option Choice → Type 0
  Tells demands rows ways None = (others : List ℕ) → IsDivision ways demands others → ⊥
  Tells demands rows ways (Some choice) = IsTold demands rows ways choice

  -- no program is told to count nothing
  Tells-nothing : (rows : List (List (Option Choice))) (ways : ℕ) → Tells [] rows ways (Some nothing)
  Tells-nothing rows ways = record { division = tt; same = refl; best = λ others is. IsNoWorse-same no_score }

  module _ (d : Demand) (demands : List Demand) (row : List (Option Choice)) (rows : List (List (Option Choice))) where
    -- what the rest of a choice counts is what its division counts
    whole-rest : (rest : Choice) (ways : ℕ) → Tells demands rows ways (Some rest) → IsWhole goal rest.score.whole
    whole-rest rest ways told = subst (λ (s : Score). IsWhole goal s.whole) told.same (IsWhole-score goal demands (misses_with demands (counts_from demands rows ways)))

    -- a division of one program more is no better than a choice that its own ways are no better than
    behind-some : (best : Score) (count : ℕ) (ways : ℕ) (others : List ℕ) (rest : Option Choice) → Tells demands rows ways rest → IsDivision ways demands others
        → IsNoBetter (with_count goal d count rest) (Some (record { count = 0; score = best }))
        → IsNoWorse best (joined goal (score_one goal d (get_or d.misses count 0)) (score_of goal demands (misses_with demands others)))
    behind-some best count ways others None told is better = absurd (told others is)
    behind-some best count ways others (Some rest) told is better =
        let own = score_one goal d (get_or d.misses count 0) in
        let later = score_of goal demands (misses_with demands others) in
        let first = whole-rest rest ways told in
        let mid : IsWhole goal (joined goal own rest.score).whole = subst (λ (s : Score). IsWhole goal (joined goal own s).whole) told.same
        (IsWhole-score goal (d ∷ demands) (get_or d.misses count 0 ∷ misses_with demands (counts_from demands rows ways))) in
        IsNoWorse-trans best (joined goal own rest.score) (joined goal own later) (IsWhole-some goal _ mid) better
        (IsNoWorse-joined goal own rest.score later first (IsWhole-score goal demands (misses_with demands others)) (told.best others is))

    behind-none : (count ways : ℕ) (others : List ℕ) (rest : Option Choice) → Tells demands rows ways rest → IsDivision ways demands others
        → IsNoBetter (with_count goal d count rest) None → ⊥
    behind-none count ways others None told is better = told others is
    behind-none count ways others (Some rest) told is better = better

    -- a choice whose ways are followed by what is best after them
    followed : (choice : Choice) (ways : ℕ) (rest : Option Choice) → Tells demands rows ways rest → with_count goal d choice.count rest ≡ Some choice
        → (IsDivision ways demands (counts_from demands rows ways))
        × (joined goal (score_one goal d (get_or d.misses choice.count 0)) (score_of goal demands (misses_with demands (counts_from demands rows ways))) ≡ choice.score)
    followed choice ways None told chosen = absurd (none-some choice chosen)
    followed choice ways (Some rest) told chosen =
        (told.division, ap (λ (s : Score). joined goal (score_one goal d (get_or d.misses choice.count 0)) s) told.same ∙ ap (λ (c : Choice). c.score) (same_Some _ choice chosen))

    Tells-cons : (behind : (ways : ℕ) → ways ≤ 32 → Tells demands rows ways (at (first_row rows) ways)) (ways : ℕ) → ways ≤ 32 → (best : Option Choice) → at row ways ≡ best
        → IsBestFor goal d (first_row rows) ways best → Tells (d ∷ demands) (row ∷ rows) ways best
    Tells-cons behind ways within None at_row is = none
      where
        none : (others : List ℕ) → IsDivision ways (d ∷ demands) others → ⊥
        none [] h = h
        none (count ∷ others) h = behind-none count (ways - count) others (at (first_row rows) (ways - count)) (behind (ways - count) (omega (arith, within))) h.2 (is.others count h.0 h.1)
    Tells-cons behind ways within (Some choice) at_row is =
        let chosen = is.chosen in
        let left = ways - choice.count in
        let rest = followed choice left (at (first_row rows) left) (behind left (omega (arith, within))) chosen.same in
        record {
          division = rw at_row (chosen.enough, chosen.within, rest.0);
          same = rw at_row rest.1;
          best = all;
        }
      where
        all : (others : List ℕ) → IsDivision ways (d ∷ demands) others → IsNoWorse choice.score (score_of goal (d ∷ demands) (misses_with (d ∷ demands) others))
        all [] h = absurd h
        all (count ∷ others) h = behind-some choice.score count (ways - count) others (at (first_row rows) (ways - count)) (behind (ways - count) (omega (arith, within))) h.2
            (any (choice_of goal d (first_row rows) ways count) (is.others count h.0 h.1))
          where
            any : (other : Option Choice) → IsNoBetter other (Some choice) → IsNoBetter other (Some (record { count = 0; score = choice.score }))
            any None k = tt
            any (Some c) k = k

  -- the rows tell the best divisions
  pub Tells-rows : (demands : List Demand) (rows : List (List (Option Choice))) → AreRows goal demands rows
      → (ways : ℕ) → ways ≤ 32 → Tells demands rows ways (at (first_row rows) ways)
  Tells-rows [] rows are ways within =
      let last : at (first_row rows) ways ≡ Some nothing = ap (λ (all : List (List (Option Choice))). at (first_row all) ways) are ∙ get_or-replicate 33 ways (Some nothing) None (omega (arith, within)) in
      rw last (Tells-nothing rows ways)
  Tells-rows (d ∷ demands) [] are ways within = absurd are
  Tells-rows (d ∷ demands) (row ∷ rows) are ways within =
      Tells-cons d demands row rows (λ fewer below. Tells-rows demands rows are.2 fewer below) ways within (at row ways) refl (are.0 ways within)

  -- ---- what the code asks of rows

  -- there is a row
  pub length-rows : (demands : List Demand) (table : List (List (Option Choice))) → AreRows goal demands table → 1 ≤ length table
  length-rows [] table are = rw are (omega arith)
  length-rows (d ∷ demands) [] are = absurd are
  length-rows (d ∷ demands) (front ∷ table) are = omega arith

  -- its choices are what the programs at most count
  AreFit-first : (demands : List Demand) (table : List (List (Option Choice))) → AreRows goal demands table → AreFit goal (length demands) (first_row table)
  AreFit-first [] table are = subst (λ (all : List (List (Option Choice))). AreFit goal 0 (first_row all)) (sym are) (AreFit-nothing goal)
  AreFit-first (d ∷ demands) [] are = absurd are
  AreFit-first (d ∷ demands) (front ∷ table) are = are.1

  -- of the first row
  pub AreFit-rows : (demands : List Demand) (table : List (List (Option Choice))) (front : List (Option Choice)) (after : ℕ) → AreRows goal demands table → after ≡ length demands
      → front ≡ get_or table 0 front → AreFit goal after front
  AreFit-rows demands table front after are count first =
      let here : front ≡ first_row table = first ∙ get_or_default table 0 front [] (omega (arith, length-rows demands table are)) in
      subst (λ (n : ℕ). AreFit goal n front) (sym count) (subst (λ (r : List (Option Choice)). AreFit goal (length demands) r) (sym here) (AreFit-first demands table are))

  -- a row more in front
  pub AreRows-cons : (demands : List Demand) (d : Demand) (table : List (List (Option Choice))) (front next : List (Option Choice)) (k after : ℕ) → k < length demands → AreRows goal (drop (k + 1) demands) table
      → after ≡ length (drop (k + 1) demands) → next ≡ get_or table 0 next → d ≡ get_or demands k d → ((ways : ℕ) → ways ≤ 32 → IsBestFor goal d next ways (at front ways)) → AreFit goal (after + 1) front
      → AreRows goal (drop k demands) (front ∷ table)
  AreRows-cons demands d table front next k after within are count first own best fit =
      let here : next ≡ first_row table = first ∙ get_or_default table 0 next [] (omega (arith, length-rows _ table are)) in
      let cut : drop k demands ≡ d ∷ drop (k + 1) demands = drop_more demands k d within ∙ ap (λ (x : Demand). x ∷ drop (k + 1) demands) (sym own) in
      subst (λ (ds : List Demand). AreRows goal ds (front ∷ table)) (sym cut) (
        subst (λ (n : List (Option Choice)). (ways : ℕ) → ways ≤ 32 → IsBestFor goal d n ways (at front ways)) here best,
        subst (λ (n : ℕ). AreFit goal n front) (let more : after + 1 ≡ suc (length (drop (k + 1) demands)) = omega (arith, count) in more) fit,
        are,
      )

  -- ---- the best division of all

  module _ (demands : List Demand) (table : List (List (Option Choice))) (front : List (Option Choice)) (ways : ℕ) (within : ways ≤ 32) (are : AreRows goal demands table) (first : front ≡ get_or table 0 front) where
    told : Tells demands table ways (at front ways)
    told =
        let here : front ≡ first_row table = first ∙ get_or_default table 0 front [] (omega (arith, length-rows demands table are)) in
        subst (λ (r : List (Option Choice)). Tells demands table ways (at r ways)) (sym here) (Tells-rows demands table are ways within)

    -- the rows tell none where there is none
    pub no-division : is_some (at front ways) ≡ false → (counts : List ℕ) → IsDivision ways demands counts → ⊥
    no-division none = by (at front ways) told none
      where
        by : (best : Option Choice) → Tells demands table ways best → is_some best ≡ false → (counts : List ℕ) → IsDivision ways demands counts → ⊥
        by None h none = h
        by (Some choice) h none = absurd cc

    -- and else tell the best
    pub best-division : is_some (at front ways) ≡ true → IsBestDivision goal ways demands (counts_from demands table ways)
    best-division some_row = by (at front ways) told some_row
      where
        by : (best : Option Choice) → Tells demands table ways best → is_some best ≡ true → IsBestDivision goal ways demands (counts_from demands table ways)
        by None h is = absurd cc
        by (Some choice) h is = record { division = h.division; best = λ others other. subst (λ (s : Score). IsNoWorse s (score_of goal demands (misses_with demands others))) (sym h.same) (h.best others other) }
