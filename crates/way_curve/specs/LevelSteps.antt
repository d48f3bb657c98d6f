-- Which lines were used in a level, and which uses levels have seen.
-- (For functions and proofs: no promise of the program stands on it.)
use Rattle.std.specs.Prelude.{◌≡◌, ℕ, ◌<◌, ◌≤◌, Bool, true, List, [], ◌∷◌, ◌++◌, slice_index_or, if◌then◌else◌, Option, Some, None}
use Rattle.lackey_text.specs.declared.uses.LineUse.{LineUse}
use Rattle.way_curve.specs.Counting.{all_lines, code_lines, data_lines}
use Rattle.way_curve.specs.Curves.{uses_of_set}
use Rattle.way_curve.specs.FirstLevels.{is_missing, left_by, left_by_l1}
use Rattle.way_curve.specs.Slots.{Serve}
use Rattle.way_curve.specs.declared.first_level.LevelShape.{LevelShape}
use Rattle.way_curve.specs.declared.first_levels.LevelShapes.{LevelShapes}

-- what contracts see: the shape, and the slots of each set
pub record LevelValue : Type 0 where
  pub shape : LevelShape
  pub recent : List (List (Option ℕ))

-- Just these lines were used in it, in order: the slots of each set are those of the lines that are used in it.
pub record HasUsed (level : LevelValue) (lines : List ℕ) : Type 0 where
  pub recent : (set : ℕ) → set < level.shape.sets → Serve (slice_index_or level.recent set []) (uses_of_set level.shape.sets set lines)

-- Whatever lines were used in it, those and this one were now.
abbrev pub UsesLine : LevelValue → LevelValue → ℕ → Type 0
UsesLine old new line = (lines : List ℕ) → HasUsed old lines → HasUsed new (lines ++ line ∷ [])

-- a level's shape: there is a set, and there are few ways
pub record IsSized (sets ways : ℕ) : Type 0 where
  pub some : 0 < sets
  pub few : ways ≤ 32

-- what contracts see: the L1 for data, that for code, and the L2
pub record LevelsValue : Type 0 where
  pub of_data : Option LevelValue
  pub of_code : Option LevelValue
  pub second : Option LevelValue

-- a level has this shape, and these lines were used in it; there is none where there is no shape
abbrev pub IsLevel : Option LevelShape → List ℕ → Option LevelValue → Type 0
IsLevel None lines None = Unit {0}
IsLevel (Some shape) lines (Some level) = (level.shape ≡ shape) × HasUsed level lines
IsLevel shape lines level = ⊥

-- whether a level leaves the use of a line after these; where there is none, it does
abbrev pub is_left_line : Option LevelShape → List ℕ → ℕ → Bool
is_left_line None earlier x = true
is_left_line (Some shape) earlier x = is_missing shape earlier x

-- The levels have these shapes, and have seen these uses: in the L1 of each kind those of its kind were used, and in the L2 those that
-- the L1 left.
pub record HaveSeen (shapes : LevelShapes) (levels : LevelsValue) (uses : List LineUse) : Type 0 where
  pub of_data : IsLevel shapes.l1 (data_lines uses) levels.of_data
  pub of_code : IsLevel shapes.l1 (code_lines uses) levels.of_code
  pub second : IsLevel shapes.l2 (all_lines (left_by_l1 shapes.l1 uses)) levels.second

-- Whatever uses the levels have seen, they have now seen those and this one, which is left if the answer is true.
pub record SeesUse (old new : LevelsValue) (u : LineUse) (is_left : Bool) : Type 0 where
  pub seen : (shapes : LevelShapes) (uses : List LineUse) → HaveSeen shapes old uses → HaveSeen shapes new (uses ++ u ∷ [])
  pub left : (shapes : LevelShapes) (uses : List LineUse) → HaveSeen shapes old uses → left_by shapes (uses ++ u ∷ []) ≡ left_by shapes uses ++ (if is_left then u ∷ [] else [])
