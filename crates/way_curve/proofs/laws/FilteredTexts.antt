-- What levels leave of the bytes of a trace so far.
use Rattle.std.proofs.Common.{◌≡◌, ℕ, List, [], Option, Some, None, refl, sym, ap, ◌∙◌}
use Rattle.way_curve.proofs.laws.FirstLines.{IsOpen-nil}
use Rattle.way_curve.specs.FilterTexts.{IsFilteredSoFar, filter_text, uses_text}
use Rattle.way_curve.specs.Filters.{FilterValue, HasFiltered}
use Rattle.way_curve.specs.FirstLevels.{left_by, left_by_l1, left_by_l2}
use Rattle.way_curve.specs.TraceTexts.{uses_from}
use Rattle.way_curve.specs.declared.first_level.LevelShape.{LevelShape}
use Rattle.way_curve.specs.declared.first_levels.LevelShapes.{LevelShapes}

left_by_l1-nil : (level : Option LevelShape) → left_by_l1 level [] ≡ []
left_by_l1-nil None = refl
left_by_l1-nil (Some level) = refl

left_by_l2-nil : (level : Option LevelShape) → left_by_l2 level [] ≡ []
left_by_l2-nil None = refl
left_by_l2-nil (Some level) = refl

-- of no uses none are left
left_by-nil : (levels : LevelShapes) → left_by levels [] ≡ []
left_by-nil levels = ap (left_by_l2 levels.l2) (left_by_l1-nil levels.l1) ∙ left_by_l2-nil levels.l2

-- and no text
pub filter_text-nil : (levels : LevelShapes) → [] ≡ filter_text levels []
filter_text-nil levels = sym (ap uses_text (left_by-nil levels))

-- before the first byte
pub IsFilteredSoFar-nil : (levels : LevelShapes) → IsFilteredSoFar levels [] []
unfolding uses_from
IsFilteredSoFar-nil levels = record { whole = []; rest = []; uses = []; begins = λ more. refl; is_open = IsOpen-nil; said = refl; told = filter_text-nil levels }

-- after bytes that were filtered
pub IsFilteredSoFar-filtered : (levels : LevelShapes) (f : FilterValue) (text out : List ℕ) → HasFiltered levels f text out → IsFilteredSoFar levels text out
IsFilteredSoFar-filtered levels f text out filtered = record {
  whole = filtered.joins.whole;
  rest = f.lines.rest;
  uses = filtered.uses;
  begins = filtered.joins.begins;
  is_open = filtered.joins.is_open;
  said = filtered.joins.said;
  told = filtered.told;
}
