-- The shape of a level.
use Rattle.std.specs.Prelude.{ℕ, ◌==◌, if◌then◌else◌, List, Option, None, option_map}
use Rattle.std.specs.List.{after_first, before_first, list_any}
use Rattle.std.specs.Option.{option_and_then}
use Rattle.way_curve.specs.declared.first_level.LevelShape.{LevelShape}
use Rattle.plan_top.specs.Numbers.{sets_in, ways_in}

-- a level that has these sets and ways
abbrev pub shape_in : List ℕ → List ℕ → Option LevelShape
shape_in sets ways = option_and_then (λ s. option_map (λ w. record { sets = s; ways = w }) (ways_in ways)) (sets_in sets)

-- a level, SETSxWAYS: its sets stand before the first `x`, and its ways after that
abbrev pub level_in : List ℕ → Option LevelShape
level_in text = if list_any (λ b. b == 120) text then shape_in (before_first (λ b. b == 120) text) (after_first (λ b. b == 120) text) else None
