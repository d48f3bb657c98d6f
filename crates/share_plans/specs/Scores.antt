-- What a division is judged by: all weighted misses together, or the worst weighted ratio of misses to uses of a program.
use Rattle.std.specs.Prelude.{ℕ, ◌+◌, ◌*◌, ◌≤◌, ◌==◌, nat_lt, Bool, if◌then◌else◌, List, [], ◌∷◌, get_or}
use Rattle.share_plans.specs.declared.demand.Demand.{Demand}
use Rattle.share_plans.specs.declared.goal.Goal.{Goal}
use Rattle.share_plans.specs.declared.goal.Goal.TheVariants.{Misses, Ratio}
use Rattle.share_plans.specs.declared.score.Score.{Score}

-- whether a fraction is less than another
abbrev pub is_less : Score → Score → Bool
is_less a b = nat_lt (a.part * b.whole) (b.part * a.whole)

-- a fraction is no greater than another, and so no worse
abbrev pub IsNoWorse : Score → Score → Type 0
IsNoWorse a b = a.part * b.whole ≤ b.part * a.whole

-- the greater of two fractions, the first where they are equal
abbrev pub worse : Score → Score → Score
worse a b = if is_less a b then b else a

-- so many uses; 1 where there are none, so that a program without uses has the ratio 0
abbrev pub whole_of : ℕ → ℕ
whole_of uses = if uses == 0 then 1 else uses

-- the uses of a program: with no ways all of them miss
abbrev pub uses_of : Demand → ℕ
uses_of d = get_or d.misses 0 0

-- what so many misses of one program count
abbrev pub score_one : Goal → Demand → ℕ → Score
score_one Misses d misses = record { part = d.weight * misses; whole = 1 }
score_one Ratio d misses = record { part = d.weight * misses; whole = whole_of (uses_of d) }

-- what two count together: the sum of misses, or the worse of two ratios
abbrev pub joined : Goal → Score → Score → Score
joined Misses a b = record { part = a.part + b.part; whole = 1 }
joined Ratio a b = worse a b

-- what no program counts
abbrev pub no_score : Score
no_score = record { part = 0; whole = 1 }

-- what these misses of these programs count together
abbrev pub score_of : Goal → List Demand → List ℕ → Score
score_of goal [] misses = no_score
score_of goal (d ∷ demands) [] = no_score
score_of goal (d ∷ demands) (n ∷ misses) = joined goal (score_one goal d n) (score_of goal demands misses)
