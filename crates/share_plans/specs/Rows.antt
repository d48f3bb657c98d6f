-- Rows of the table: what is best for the programs from one on, with each number of ways.
-- (For functions and proofs: no promise of the program stands on it.)
use Rattle.std.specs.Prelude.{◌≡◌, ℕ, ◌-◌, ◌*◌, ◌^◌, ◌<◌, ◌≤◌, List, [], ◌∷◌, Option, Some, None, IfSome, All, replicate, get_or, length, if◌then◌else◌}
use Rattle.std.specs.declared.alloc.Global.{Global}
use Rattle.std.specs.declared.vec.Vec.{Vec}
use Rattle.share_plans.specs.declared.choice.Choice.{Choice}
use Rattle.share_plans.specs.declared.demand.Demand.{Demand}
use Rattle.share_plans.specs.declared.division_limits.TheConstants.{MOST_USES, MOST_WEIGHT}
use Rattle.share_plans.specs.declared.goal.Goal.{Goal}
use Rattle.share_plans.specs.declared.goal.Goal.TheVariants.{Misses, Ratio}
use Rattle.share_plans.specs.declared.score.Score.{Score}
use Rattle.share_plans.specs.Scores.{IsNoWorse, is_less, joined, no_score, score_one}

-- the whole of a fraction: 1 where misses are added, and 1 at least where ratios are compared
abbrev pub IsWhole : Goal → ℕ → Type 0
IsWhole Misses whole = whole ≡ 1
IsWhole Ratio whole = 0 < whole

-- what so many programs at most count together
pub record IsFit (goal : Goal) (programs : ℕ) (score : Score) : Type 0 where
  pub whole : IsWhole goal score.whole
  pub part : score.part ≤ programs * 2 ^ 58

-- a program's numbers: a weight, and the misses with each number of ways
pub record IsSmall (d : Demand) : Type 0 where
  pub weight : d.weight ≤ MOST_WEIGHT
  pub misses : All (λ n. n ≤ MOST_USES) d.misses
  pub count : length d.misses ≡ 33

-- the better of two choices, the first where they are as good
abbrev pub better : Option Choice → Option Choice → Option Choice
better None second = second
better (Some a) None = Some a
better (Some a) (Some b) = if is_less b.score a.score then Some b else Some a

-- what a row has for so many ways
abbrev pub at : List (Option Choice) → ℕ → Option Choice
at row ways = get_or row ways None

-- so many ways for a program, and what is best for the programs after it
abbrev pub with_count : Goal → Demand → ℕ → Option Choice → Option Choice
with_count goal d count None = None
with_count goal d count (Some rest) = Some (record { count = count; score = joined goal (score_one goal d (get_or d.misses count 0)) rest.score })

-- the same by the row of the programs after it, where there are so many ways for all
abbrev pub choice_of : Goal → Demand → List (Option Choice) → ℕ → ℕ → Option Choice
choice_of goal d next ways count = with_count goal d count (at next (ways - count))

-- a choice, if it is one, is no better than the best
abbrev pub IsNoBetter : Option Choice → Option Choice → Type 0
IsNoBetter None best = Unit {0}
IsNoBetter (Some choice) None = ⊥
IsNoBetter (Some choice) (Some best) = IsNoWorse best.score choice.score

-- a choice that a program has with so many ways for it and those after it
pub record IsChosen (goal : Goal) (d : Demand) (next : List (Option Choice)) (ways : ℕ) (choice : Choice) : Type 0 where
  pub enough : d.least ≤ choice.count
  pub within : choice.count ≤ ways
  pub same : choice_of goal d next ways choice.count ≡ Some choice

-- The best choice of a program's ways, if there is any.
pub record IsBestFor (goal : Goal) (d : Demand) (next : List (Option Choice)) (ways : ℕ) (best : Option Choice) : Type 0 where
  pub chosen : IfSome best (IsChosen goal d next ways)
  pub others : (count : ℕ) → d.least ≤ count → count ≤ ways → IsNoBetter (choice_of goal d next ways count) best

-- each choice of a row is what so many programs at most count
abbrev pub AreFit : Goal → ℕ → List (Option Choice) → Type 0
AreFit goal programs row = (ways : ℕ) → IfSome (at row ways) (λ choice. IsFit goal programs choice.score)

-- no program gets no ways
abbrev pub nothing : Choice
nothing = record { count = 0; score = no_score }

-- the first row, or none
abbrev pub first_row : List (List (Option Choice)) → List (Option Choice)
first_row table = get_or table 0 []

-- the rows of some programs: of all, of those after the first, and so on; the last is that of no program
abbrev pub AreRows : Goal → List Demand → List (List (Option Choice)) → Type 0
AreRows goal [] rows = rows ≡ replicate 33 (Some nothing) ∷ []
AreRows goal (d ∷ demands) [] = ⊥
AreRows goal (d ∷ demands) (row ∷ rows) = ((ways : ℕ) → ways ≤ 32 → IsBestFor goal d (first_row rows) ways (at row ways)) × (AreFit goal (length (d ∷ demands)) row) × (AreRows goal demands rows)

-- the ways of a choice
abbrev pub count_of : Option Choice → ℕ
count_of None = 0
count_of (Some choice) = choice.count

-- the ways of a choice, and those after them
abbrev pub with_choice : Option Choice → List ℕ → List ℕ
with_choice None rest = []
with_choice (Some choice) rest = choice.count ∷ rest

-- the ways that the rows tell for each program, out of so many
abbrev pub counts_from : List Demand → List (List (Option Choice)) → ℕ → List ℕ
counts_from [] rows ways = []
counts_from (d ∷ demands) [] ways = []
counts_from (d ∷ demands) (row ∷ rows) ways = with_choice (at row ways) (counts_from demands rows (ways - count_of (at row ways)))

-- the ways of each program in a division, if there is one
abbrev pub counts_in : Option (Vec ℕ Global) → Option (List ℕ)
counts_in None = None
counts_in (Some counts) = Some counts.items
