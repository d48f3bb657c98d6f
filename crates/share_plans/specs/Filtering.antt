-- Which uses the levels of the programs have seen, and what they leave of them was played.
-- (For functions and proofs: no promise of the program stands on it.)
use Rattle.std.specs.Prelude.{◌≡◌, ℕ, ◌<◌, Bool, List, [], ◌∷◌, ◌++◌, Option, Some, None, IfSome, get_or, length}
use Rattle.way_curve.specs.FirstLevels.{no_levels}
use Rattle.way_curve.specs.LevelSteps.{HaveSeen, LevelsValue}
use Rattle.way_curve.specs.declared.first_levels.LevelShapes.{LevelShapes}
use Rattle.share_plans.specs.LeftUses.{is_left, left_uses, own_uses}
use Rattle.share_plans.specs.Played.{Asked, HavePlayed, PlayedValue}
use Rattle.share_plans.specs.declared.program_use.ProgramUse.{ProgramUse}

-- what is played: which levels each program has, and what is asked of the uses that they leave
pub record Filtering : Type 0 where
  pub levels : LevelShapes
  pub asked : Asked

-- what contracts see: the levels of each program, if there are any, and what was played of the uses that they leave
pub record FilteredValue : Type 0 where
  pub levels : Option (List LevelsValue)
  pub played : PlayedValue

-- The levels of each program have these shapes, and of these uses they have seen the program's own.
abbrev pub HaveSeenOwn : LevelShapes → List LevelsValue → List ProgramUse → Type 0
HaveSeenOwn shapes levels uses = (k : ℕ) (d : LevelsValue) → k < length levels → HaveSeen shapes (get_or levels k d) (own_uses k uses)

-- Whatever uses the levels have seen, they have now seen those and this one, and the answer is whether it is left.
pub record SeeUse (old new : List LevelsValue) (u : ProgramUse) (left : Bool) : Type 0 where
  pub seen : (shapes : LevelShapes) (uses : List ProgramUse) → HaveSeenOwn shapes old uses → HaveSeenOwn shapes new (uses ++ u ∷ [])
  pub is : (shapes : LevelShapes) (uses : List ProgramUse) → HaveSeenOwn shapes old uses → left ≡ is_left shapes uses u

-- the same of levels, if there are any; there are none where there is no shape
abbrev pub HaveSeenIf : LevelShapes → Option (List LevelsValue) → List ProgramUse → Type 0
HaveSeenIf shapes None uses = shapes ≡ no_levels
HaveSeenIf shapes (Some levels) uses = HaveSeenOwn shapes levels uses

-- The levels have seen these uses, and what they leave of them was played.
pub record HaveFiltered (filtering : Filtering) (p : FilteredValue) (uses : List ProgramUse) : Type 0 where
  pub seen : HaveSeenIf filtering.levels p.levels uses
  pub played : HavePlayed filtering.asked p.played (left_uses filtering.levels uses)

-- Whatever uses were filtered, those and these are now.
abbrev pub AddFiltered : FilteredValue → FilteredValue → List ProgramUse → Type 0
AddFiltered old new more = (filtering : Filtering) (uses : List ProgramUse) → HaveFiltered filtering old uses → HaveFiltered filtering new (uses ++ more)

-- with levels
abbrev pub behind : List LevelsValue → PlayedValue → FilteredValue
behind levels played = record { levels = Some levels; played = played }

-- there are levels for each program, if there are any
abbrev pub HaveLevels : ℕ → Option (List LevelsValue) → Type 0
HaveLevels programs levels = IfSome levels (λ all. length all ≡ programs)
