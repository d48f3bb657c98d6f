-- What was written of a trace that levels filter.
-- (For functions and proofs: no promise of the program stands on it.)
use Rattle.std.specs.Prelude.{◌≡◌, ℕ, ◌+◌, List, ◌++◌, Option, Some, None}
use Rattle.lackey_text.specs.declared.uses.LineUse.{LineUse}
use Rattle.way_curve.specs.FilterTexts.{IsBadAt, IsFiltered, filter_text}
use Rattle.way_curve.specs.Joining.{JoinerValue, Joins}
use Rattle.way_curve.specs.LevelSteps.{HaveSeen, LevelsValue}
use Rattle.way_curve.specs.declared.first_levels.LevelShapes.{LevelShapes}
use Rattle.way_curve.specs.declared.trace.BadTrace.{BadTrace}

-- what contracts see: the lines of the text, and the levels
pub record FilterValue : Type 0 where
  pub lines : JoinerValue
  pub levels : LevelsValue

-- The levels have these shapes, the text was read, and what they leave of its whole lines is this.
pub record HasFiltered (shapes : LevelShapes) (f : FilterValue) (text out : List ℕ) : Type 0 where
  pub uses : List LineUse
  pub joins : Joins f.lines text uses
  pub seen : HaveSeen shapes f.levels uses
  pub told : out ≡ filter_text shapes uses

-- a line is bad after those uses, of which the levels leave this
pub record IsToldTo (shapes : LevelShapes) (text out : List ℕ) (line : ℕ) : Type 0 where
  pub before : ℕ
  pub uses : List LineUse
  pub is_line : line ≡ before + 1
  pub is_bad : IsBadAt text before uses
  pub told : out ≡ filter_text shapes uses

-- after a byte of this text
abbrev pub TakesFilter : LevelShapes → FilterValue → List ℕ → List ℕ → Option BadTrace → Type 0
TakesFilter shapes new text out None = HasFiltered shapes new text out
TakesFilter shapes new text out (Some bad) = (more : List ℕ) → IsToldTo shapes (text ++ more) out bad.line

-- at the end of the text
abbrev pub EndsFilter : LevelShapes → List ℕ → List ℕ → Option BadTrace → Type 0
EndsFilter shapes text out None = IsFiltered shapes text out
EndsFilter shapes text out (Some bad) = IsToldTo shapes text out bad.line

-- Whatever uses the levels have seen, they have now seen those and these, and what they leave of these was added to the text.
abbrev pub WritesLeft : LevelsValue → LevelsValue → List ℕ → List ℕ → List LineUse → Type 0
WritesLeft old new before now more = (shapes : LevelShapes) (uses : List LineUse) (written : List ℕ) → HaveSeen shapes old uses → written ++ before ≡ filter_text shapes uses
    → HaveSeen shapes new (uses ++ more) × (written ++ now ≡ filter_text shapes (uses ++ more))
