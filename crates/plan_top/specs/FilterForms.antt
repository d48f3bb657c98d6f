-- What the words after `filter` ask for: the levels that a trace is played through.
use Rattle.std.specs.Prelude.{ℕ, ◌<◌, ◌≤◌, if◌then◌else◌, List, [], ◌∷◌, codes, string_bytes, String, Option, Some, None, IfSome, option_map}
use Rattle.std.specs.Option.{option_and_then}
use Rattle.std.specs.declared.alloc.Global.{Global}
use Rattle.rc_base.specs.Texts.{is_text}
use Rattle.way_curve.specs.FirstLevels.{no_levels}
use Rattle.way_curve.specs.declared.first_level.LevelShape.{LevelShape}
use Rattle.way_curve.specs.declared.first_levels.LevelShapes.{LevelShapes}
use Rattle.plan_top.specs.Levels.{level_in}

-- each level has a set and few ways
pub record AreSized (levels : LevelShapes) : Type 0 where
  pub first : IfSome levels.l1 (λ s. (0 < s.sets) × (s.ways ≤ 32))
  pub second : IfSome levels.l2 (λ s. (0 < s.sets) × (s.ways ≤ 32))

-- levels with another L1
abbrev pub with_l1 : LevelShapes → LevelShape → LevelShapes
with_l1 levels level = record { l1 = Some level; l2 = levels.l2 }

-- levels with another L2
abbrev pub with_l2 : LevelShapes → LevelShape → LevelShapes
with_l2 levels level = record { l1 = levels.l1; l2 = Some level }

-- levels with an L2, after which no word may stand
abbrev pub last_l2 : LevelShapes → List ℕ → List (String Global) → Option LevelShapes
last_l2 levels text [] = option_map (λ l. with_l2 levels l) (level_in text)
last_l2 levels text words = None

-- levels, and with what the words from `--l2` on ask for
abbrev pub from_l2 : LevelShapes → List (String Global) → Option LevelShapes
from_l2 levels [] = Some levels
from_l2 levels (flag ∷ level ∷ rest) = if is_text (string_bytes flag) (codes "--l2") then last_l2 levels (string_bytes level) rest else None
from_l2 levels words = None

-- what the words after `filter` ask for, and None where the command line is not valid: `--l1 SETSxWAYS` and `--l2 SETSxWAYS`, one of them
-- at least, in this order
abbrev pub filter_in : List (String Global) → Option LevelShapes
filter_in [] = None
filter_in (flag ∷ level ∷ rest) =
    if is_text (string_bytes flag) (codes "--l1") then option_and_then (λ l. from_l2 (with_l1 no_levels l) rest) (level_in (string_bytes level)) else from_l2 no_levels (flag ∷ level ∷ rest)
filter_in words = None
