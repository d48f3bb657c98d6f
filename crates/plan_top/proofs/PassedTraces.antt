-- What is passed on of a trace that levels filter, with the line of a refusal.
use Rattle.std.proofs.Common.{◌≡◌, ℕ, List, ◌++◌, Option, Some, None, refl, sym, ap, subst, ◌∙◌, append_assoc}
use Rattle.std.specs.Prelude.{IfSome}
use Rattle.call_rim.specs.Passing.{EndsAs, TakesByte}
use Rattle.call_rim.specs.declared.pass_program.Passing.{Passing}
use Rattle.call_rim.specs.declared.pass_program.Passing.TheVariants.{Good, Refused}
use Rattle.way_curve.proofs.laws.FilteredTexts.{IsFilteredSoFar-filtered}
use Rattle.way_curve.specs.CurveTexts.{bad_line_text}
use Rattle.way_curve.specs.FilterTexts.{IsFiltered, IsFilteredSoFar, IsFilteredToBad, filter_text}
use Rattle.way_curve.specs.Filters.{EndsFilter, FilterValue, HasFiltered, IsToldTo, TakesFilter}
use Rattle.way_curve.specs.declared.first_levels.LevelShapes.{LevelShapes}
use Rattle.way_curve.specs.declared.trace.BadTrace.{BadTrace}

-- a bad line was told, if there is one, after a text
pub record IsToldBy (bad : Option BadTrace) (before now : List ℕ) (result : Passing) : Type 0 where
  pub good : bad ≡ None → (result ≡ Good) × (now ≡ before)
  pub refused : IfSome bad (λ bad. (result ≡ Refused) × (now ≡ before ++ bad_line_text bad.line))

module _ (levels : LevelShapes) (written before now : List ℕ) (result : Passing) where
  -- what the levels leave, and then the line of the refusal
  IsFilteredToBad-told : (bytes : List ℕ) (line : ℕ) → IsToldTo levels bytes (written ++ before) line → now ≡ before ++ bad_line_text line → IsFilteredToBad levels bytes (written ++ now)
  IsFilteredToBad-told bytes line told is = record {
    before = told.before;
    uses = told.uses;
    is_bad = told.is_bad;
    told =
        ap (λ (l : List ℕ). written ++ l) is
        ∙ (sym (append_assoc written before (bad_line_text line)) ∙ (ap (λ (l : List ℕ). l ++ bad_line_text line) told.told ∙ ap (λ (k : ℕ). filter_text levels told.uses ++ bad_line_text k) told.is_line));
  }

  -- a byte
  pub TakesByte-told : (new : FilterValue) (bytes : List ℕ) (bad : Option BadTrace) → IsToldBy bad before now result → TakesFilter levels new bytes (written ++ before) bad
      → TakesByte (HasFiltered levels new) (IsFilteredSoFar levels) (IsFilteredToBad levels) bytes (written ++ now) result
  TakesByte-told new bytes None is taken =
      let good = is.good refl in
      let has : HasFiltered levels new bytes (written ++ now) = subst (λ (l : List ℕ). HasFiltered levels new bytes (written ++ l)) (sym good.1) taken in
      subst (λ (r : Passing). TakesByte (HasFiltered levels new) (IsFilteredSoFar levels) (IsFilteredToBad levels) bytes (written ++ now) r) (sym good.0) (has, IsFilteredSoFar-filtered levels new bytes (written ++ now) has)
  TakesByte-told new bytes (Some bad) is taken =
      subst (λ (r : Passing). TakesByte (HasFiltered levels new) (IsFilteredSoFar levels) (IsFilteredToBad levels) bytes (written ++ now) r) (sym is.refused.0)
      (λ more. IsFilteredToBad-told (bytes ++ more) bad.line (taken more) is.refused.1)

  -- the end
  pub EndsAs-told : (bytes : List ℕ) (bad : Option BadTrace) → IsToldBy bad before now result → EndsFilter levels bytes (written ++ before) bad
      → EndsAs (IsFiltered levels) (IsFilteredToBad levels) bytes (written ++ now) result
  EndsAs-told bytes None is ends =
      let good = is.good refl in
      let has : IsFiltered levels bytes (written ++ now) = subst (λ (l : List ℕ). IsFiltered levels bytes (written ++ l)) (sym good.1) ends in
      subst (λ (r : Passing). EndsAs (IsFiltered levels) (IsFilteredToBad levels) bytes (written ++ now) r) (sym good.0) has
  EndsAs-told bytes (Some bad) is ends =
      subst (λ (r : Passing). EndsAs (IsFiltered levels) (IsFilteredToBad levels) bytes (written ++ now) r) (sym is.refused.0) (IsFilteredToBad-told bytes bad.line ends is.refused.1)
