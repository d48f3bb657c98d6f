-- What the words after `share` ask for: `SETS WAYS [--l1 SETSxWAYS] [--l2 SETSxWAYS] [--ratio] WEIGHT:LEAST ..`.
use Rattle.std.specs.Prelude.{ℕ, ◌+◌, ◌<◌, ◌≤◌, ◌==◌, All, if◌then◌else◌, nat_lt, List, [], ◌∷◌, codes, decimal, length, string_bytes, String, Option, Some, None, IfSome, option_map}
use Rattle.std.specs.List.{after_first, before_first, list_any}
use Rattle.std.specs.Option.{option_and_then}
use Rattle.std.specs.declared.alloc.Global.{Global}
use Rattle.num_text.specs.Numbers.{below, dec_of}
use Rattle.rc_base.specs.Texts.{is_text}
use Rattle.share_plans.specs.declared.division_limits.TheConstants.{MOST_PROGRAMS, MOST_WEIGHT}
use Rattle.share_plans.specs.declared.goal.Goal.{Goal}
use Rattle.share_plans.specs.declared.goal.Goal.TheVariants.{Misses, Ratio}
use Rattle.share_plans.specs.declared.program.Program.{Program}
use Rattle.way_curve.specs.FirstLevels.{no_levels}
use Rattle.way_curve.specs.declared.first_level.LevelShape.{LevelShape}
use Rattle.way_curve.specs.declared.first_levels.LevelShapes.{LevelShapes}
use Rattle.plan_top.specs.Flags.{after_flag, begins_with}
use Rattle.plan_top.specs.Levels.{level_in}
use Rattle.plan_top.specs.Numbers.{sets_in, ways_in}
use Rattle.plan_top.specs.declared.share_form.Wish.{Wish}

-- the sets and ways of the cache, the levels of each program before it, what a division is to achieve, and what each program asks of it
pub record ShareWords : Type 0 where
  pub sets : ℕ
  pub ways : ℕ
  pub levels : LevelShapes
  pub goal : Goal
  pub wishes : List Wish

-- the same with what a division is to achieve, and what each program asks of it
abbrev pub shared_by : ShareWords → Goal → List Wish → ShareWords
shared_by form goal wishes = record { sets = form.sets; ways = form.ways; levels = form.levels; goal = goal; wishes = wishes }

-- the same behind an L1 of each program
abbrev pub with_l1 : ShareWords → LevelShape → ShareWords
with_l1 form level = record { sets = form.sets; ways = form.ways; levels = record { l1 = Some level; l2 = form.levels.l2 }; goal = form.goal; wishes = form.wishes }

-- the same behind an L2 of each program
abbrev pub with_l2 : ShareWords → LevelShape → ShareWords
with_l2 form level = record { sets = form.sets; ways = form.ways; levels = record { l1 = form.levels.l1; l2 = Some level }; goal = form.goal; wishes = form.wishes }

-- a form's numbers: there is a set, there are few ways and programs, so it is with each level, and no weight is too great
pub record IsShareable (sets ways : ℕ) (levels : LevelShapes) (wishes : List Wish) : Type 0 where
  pub some : 0 < sets
  pub few_ways : ways ≤ 32
  pub first : IfSome levels.l1 (λ s. (0 < s.sets) × (s.ways ≤ 32))
  pub second : IfSome levels.l2 (λ s. (0 < s.sets) × (s.ways ≤ 32))
  pub few : length wishes ≤ MOST_PROGRAMS
  pub weights : All (λ (w : Wish). w.weight ≤ MOST_WEIGHT) wishes

-- a weight: from 1 to the most, in decimal digits
abbrev pub weight_in : List ℕ → Option ℕ
weight_in text = option_and_then (λ n. if n == 0 then None else Some n) (below (MOST_WEIGHT + 1) (dec_of text))

-- a weight and the fewest ways
abbrev pub pair_in : List ℕ → List ℕ → Option Wish
pair_in weight least = option_and_then (λ w. option_map (λ l. record { weight = w; least = l }) (ways_in least)) (weight_in weight)

-- what a program asks of a division, WEIGHT:LEAST: its weight stands before the first `:`, and the fewest ways that it gets after that
abbrev pub wish_in : List ℕ → Option Wish
wish_in text = if list_any (λ b. b == 58) text then pair_in (before_first (λ b. b == 58) text) (after_first (λ b. b == 58) text) else None

-- a wish before others
abbrev pub with_wish : Option Wish → Option (List Wish) → Option (List Wish)
with_wish wish later = option_and_then (λ (w : Wish). option_map (λ (ws : List Wish). w ∷ ws) later) wish

-- what each of these words asks for, and None where one is not valid
abbrev pub wishes_of : List (String Global) → Option (List Wish)
wishes_of [] = Some []
wishes_of (word ∷ words) = with_wish (wish_in (string_bytes word)) (wishes_of words)

-- the same of one word at least, and of no more than there may be programs
abbrev pub wishes_in : List (String Global) → Option (List Wish)
wishes_in [] = None
wishes_in (word ∷ words) = if nat_lt MOST_PROGRAMS (length (word ∷ words)) then None else wishes_of (word ∷ words)

-- what a division is to achieve: `--ratio` may stand before the programs
abbrev pub goal_in : List (String Global) → Goal
goal_in words = if begins_with (codes "--ratio") words then Ratio else Misses

-- what two numbers after `share` ask for, with no levels and of no program
abbrev pub cache_in : List ℕ → List ℕ → Option ShareWords
cache_in sets ways = option_and_then (λ s. option_map (λ w. record { sets = s; ways = w; levels = no_levels; goal = Misses; wishes = [] }) (ways_in ways)) (sets_in sets)

-- the form with what the words from `--ratio` on ask for
abbrev pub from_goal : ShareWords → List (String Global) → Option ShareWords
from_goal form words = option_map (λ (ws : List Wish). shared_by form (goal_in words) ws) (wishes_in (after_flag (codes "--ratio") words))

-- the form with what the words from `--l2` on ask for
abbrev pub from_l2 : ShareWords → List (String Global) → Option ShareWords
from_l2 form (flag ∷ level ∷ rest) =
    if is_text (string_bytes flag) (codes "--l2") then option_and_then (λ l. from_goal (with_l2 form l) rest) (level_in (string_bytes level)) else from_goal form (flag ∷ level ∷ rest)
from_l2 form words = from_goal form words

-- the form with what all words after the two numbers ask for
abbrev pub from_l1 : ShareWords → List (String Global) → Option ShareWords
from_l1 form (flag ∷ level ∷ rest) =
    if is_text (string_bytes flag) (codes "--l1") then option_and_then (λ l. from_l2 (with_l1 form l) rest) (level_in (string_bytes level)) else from_l2 form (flag ∷ level ∷ rest)
from_l1 form words = from_l2 form words

-- what the words after `share` ask for, and None where the command line is not valid
abbrev pub share_in : List (String Global) → Option ShareWords
share_in (sets ∷ ways ∷ words) = option_and_then (λ (form : ShareWords). from_l1 form words) (cache_in (string_bytes sets) (string_bytes ways))
share_in words = None

-- programs with these wishes. Their names are their numbers, from this one on.
abbrev pub programs_from : ℕ → List Wish → List Program
programs_from k [] = []
programs_from k (w ∷ wishes) = record { name = decimal k; weight = w.weight; least = w.least } ∷ programs_from (k + 1) wishes

-- all programs of a form, numbered from 0 on
abbrev pub programs_of : ShareWords → List Program
programs_of form = programs_from 0 form.wishes
