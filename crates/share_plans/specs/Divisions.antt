-- Divisions of the ways of a cache among programs.
use Rattle.std.specs.Prelude.{ℕ, ◌-◌, ◌≤◌, List, [], ◌∷◌, get_or}
use Rattle.share_plans.specs.declared.demand.Demand.{Demand}
use Rattle.share_plans.specs.declared.goal.Goal.{Goal}
use Rattle.share_plans.specs.Scores.{IsNoWorse, score_of}

-- Each program gets so many ways, its least at least, and all together get no more than so many. Which ways they are makes no difference,
-- as long as no two programs have one: side by side from way 0, for example.
abbrev pub IsDivision : ℕ → List Demand → List ℕ → Type 0
IsDivision ways [] [] = Unit {0}
IsDivision ways [] (count ∷ counts) = ⊥
IsDivision ways (d ∷ demands) [] = ⊥
IsDivision ways (d ∷ demands) (count ∷ counts) = (d.least ≤ count) × (count ≤ ways) × (IsDivision (ways - count) demands counts)

-- the misses of each program with its ways
abbrev pub misses_with : List Demand → List ℕ → List ℕ
misses_with [] counts = []
misses_with (d ∷ demands) [] = []
misses_with (d ∷ demands) (count ∷ counts) = get_or d.misses count 0 ∷ misses_with demands counts

-- A division than which no other is better for the goal.
pub record IsBestDivision (goal : Goal) (ways : ℕ) (demands : List Demand) (counts : List ℕ) : Type 0 where
  pub division : IsDivision ways demands counts
  pub best : (others : List ℕ) → IsDivision ways demands others → IsNoWorse (score_of goal demands (misses_with demands counts)) (score_of goal demands (misses_with demands others))
