-- What private caches before the one that is asked about leave of uses: an L1 for data and one for code, and an L2 for both.
use Rattle.std.specs.Prelude.{ℕ, Bool, true, false, not, if◌then◌else◌, List, [], ◌∷◌, ◌++◌, Option, Some, None}
use Rattle.lackey_text.specs.declared.uses.LineUse.{LineUse}
use Rattle.way_curve.specs.Counting.{all_lines, code_lines, data_lines}
use Rattle.way_curve.specs.Curves.{is_set_hit}
use Rattle.way_curve.specs.declared.first_level.LevelShape.{LevelShape}
use Rattle.way_curve.specs.declared.first_levels.LevelShapes.{LevelShapes}

-- no level
abbrev pub no_levels : LevelShapes
no_levels = record { l1 = None; l2 = None }

-- whether a use of a line misses in a level in which these lines were used before, in order
abbrev pub is_missing : LevelShape → List ℕ → ℕ → Bool
is_missing level earlier x = not (is_set_hit level.sets level.ways earlier x)

-- the lines that these uses use as code, or as data
abbrev pub lines_as : Bool → List LineUse → List ℕ
lines_as true uses = code_lines uses
lines_as false uses = data_lines uses

-- the uses that a test lets through, in order: it sees all uses before each
abbrev pub left_after : (List LineUse → LineUse → Bool) → List LineUse → List LineUse → List LineUse
left_after passes earlier [] = []
left_after passes earlier (u ∷ uses) = (if passes earlier u then u ∷ [] else []) ++ left_after passes (earlier ++ u ∷ []) uses

-- a use misses in the L1 of its kind, in which the uses of its kind before it were
abbrev pub misses_l1 : LevelShape → List LineUse → LineUse → Bool
misses_l1 level earlier u = is_missing level (lines_as u.code earlier) u.line

-- a use misses in the L2, in which the uses before it were
abbrev pub misses_l2 : LevelShape → List LineUse → LineUse → Bool
misses_l2 level earlier u = is_missing level (all_lines earlier) u.line

-- the uses that an L1 leaves, if there is one
abbrev pub left_by_l1 : Option LevelShape → List LineUse → List LineUse
left_by_l1 None uses = uses
left_by_l1 (Some level) uses = left_after (misses_l1 level) [] uses

-- the uses that an L2 leaves, if there is one
abbrev pub left_by_l2 : Option LevelShape → List LineUse → List LineUse
left_by_l2 None uses = uses
left_by_l2 (Some level) uses = left_after (misses_l2 level) [] uses

-- the uses that miss in all levels before: the L2 is used where the L1 misses
abbrev pub left_by : LevelShapes → List LineUse → List LineUse
left_by levels uses = left_by_l2 levels.l2 (left_by_l1 levels.l1 uses)
