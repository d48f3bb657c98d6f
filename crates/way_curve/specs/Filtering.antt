-- Which uses curves have counted of those that levels leave.
-- (For functions and proofs: no promise of the program stands on it.)
use Rattle.std.specs.Prelude.{◌≡◌, List, ◌++◌, Option, Some, None}
use Rattle.lackey_text.specs.declared.uses.LineUse.{LineUse}
use Rattle.way_curve.specs.FirstLevels.{left_by, no_levels}
use Rattle.way_curve.specs.LevelSteps.{HaveSeen, LevelsValue}
use Rattle.way_curve.specs.Sampling.{HaveSampled, SampledValue, Sampling}
use Rattle.way_curve.specs.declared.first_levels.LevelShapes.{LevelShapes}

-- what is counted: which levels stand before, and what is counted of the uses that they leave
pub record Filtering : Type 0 where
  pub levels : LevelShapes
  pub sampling : Sampling

-- what contracts see: the levels, if there are any, and the curves of what they leave
pub record FilteredValue : Type 0 where
  pub levels : Option LevelsValue
  pub sampled : SampledValue

-- the levels have these shapes, and have seen these uses; there are none where there is no shape
abbrev pub HaveSeenIf : LevelShapes → Option LevelsValue → List LineUse → Type 0
HaveSeenIf shapes None uses = shapes ≡ no_levels
HaveSeenIf shapes (Some levels) uses = HaveSeen shapes levels uses

-- The levels have seen these uses, and what they leave of them is counted.
pub record HaveFiltered (filtering : Filtering) (c : FilteredValue) (uses : List LineUse) : Type 0 where
  pub seen : HaveSeenIf filtering.levels c.levels uses
  pub counted : HaveSampled filtering.sampling c.sampled (left_by filtering.levels uses)

-- Whatever uses were filtered, those and these are now.
abbrev pub AddFiltered : FilteredValue → FilteredValue → List LineUse → Type 0
AddFiltered old new more = (filtering : Filtering) (uses : List LineUse) → HaveFiltered filtering old uses → HaveFiltered filtering new (uses ++ more)

-- with levels
abbrev pub behind : LevelsValue → SampledValue → FilteredValue
behind levels sampled = record { levels = Some levels; sampled = sampled }
