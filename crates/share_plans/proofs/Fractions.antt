-- Fractions compared by cross products.
use Rattle.std.proofs.Common.{◌≡◌, ℕ, ◌*◌, ◌<◌, ◌≤◌, ◌==◌, Bool, true, false, cond, ltb, List, [], ◌∷◌, get_or, refl, arith}
use Rattle.std.proofs.Math.Nat.{le_of_mul-le-mul_left, mul-le-mul_right}
use Rattle.share_plans.specs.Rows.{IsWhole}
use Rattle.share_plans.specs.Scores.{IsNoWorse, joined, no_score, score_of, score_one, whole_of, worse}
use Rattle.share_plans.specs.declared.demand.Demand.{Demand}
use Rattle.share_plans.specs.declared.goal.Goal.{Goal}
use Rattle.share_plans.specs.declared.goal.Goal.TheVariants.{Misses, Ratio}
use Rattle.share_plans.specs.declared.score.Score.{Score}

-- one fraction no greater than a second, and that no greater than a third
cross-trans : (p q r u v w : ℕ) → 0 < v → p * v ≤ q * u → q * w ≤ r * v → p * w ≤ r * u
cross-trans p q r u v w some first next =
    let a : p * v * w ≤ q * u * w = mul-le-mul_right w first in
    let b : q * w * u ≤ r * v * u = mul-le-mul_right u next in
    le_of_mul-le-mul_left {m = p * w} {n = r * u} {k = v} (omega (arith, a, b)) some

pub IsNoWorse-trans : (a b c : Score) → 0 < b.whole → IsNoWorse a b → IsNoWorse b c → IsNoWorse a c
IsNoWorse-trans a b c some first next = cross-trans a.part b.part c.part a.whole b.whole c.whole some first next

-- a fraction is no greater than itself
pub IsNoWorse-same : (a : Score) → IsNoWorse a a
IsNoWorse-same a = omega arith

-- the greater of two is no less than the first
pub IsNoWorse-worse_first : (a b : Score) → IsNoWorse a (worse a b)
IsNoWorse-worse_first a b = at (ltb (a.part * b.whole) (b.part * a.whole)) refl
  where
    at : (less : Bool) → ltb (a.part * b.whole) (b.part * a.whole) ≡ less → IsNoWorse a (cond less b a)
    at true is = grind (arith, is)
    at false is = omega arith

-- nor than the second
pub IsNoWorse-worse_second : (a b : Score) → IsNoWorse b (worse a b)
IsNoWorse-worse_second a b = at (ltb (a.part * b.whole) (b.part * a.whole)) refl
  where
    at : (less : Bool) → ltb (a.part * b.whole) (b.part * a.whole) ≡ less → IsNoWorse b (cond less b a)
    at true is = omega arith
    at false is = grind (arith, is)

-- a whole is 1 at least
pub IsWhole-some : (goal : Goal) (whole : ℕ) → IsWhole goal whole → 0 < whole
IsWhole-some Misses whole is = omega (arith, is)
IsWhole-some Ratio whole is = is

-- so does what one program counts
whole_of-some : (uses : ℕ) → 0 < whole_of uses
whole_of-some uses = at (uses == 0) refl
  where
    at : (none : Bool) → (uses == 0) ≡ none → 0 < cond none 1 uses
    at true is = omega arith
    at false is = grind (arith, is)

IsWhole-one : (goal : Goal) (d : Demand) (misses : ℕ) → IsWhole goal (score_one goal d misses).whole
IsWhole-one Misses d misses = refl
IsWhole-one Ratio d misses = whole_of-some (get_or d.misses 0 0)

-- what two count together
pub IsWhole-joined : (goal : Goal) (a b : Score) → IsWhole goal a.whole → IsWhole goal b.whole → IsWhole goal (joined goal a b).whole
IsWhole-joined Misses a b a_is b_is = refl
IsWhole-joined Ratio a b a_is b_is = at (ltb (a.part * b.whole) (b.part * a.whole))
  where
    at : (less : Bool) → 0 < (cond less b a).whole
    at true = b_is
    at false = a_is

-- what no program counts
pub IsWhole-none : (goal : Goal) → IsWhole goal no_score.whole
IsWhole-none Misses = refl
IsWhole-none Ratio = omega arith

-- what any misses count
pub IsWhole-score : (goal : Goal) (demands : List Demand) (misses : List ℕ) → IsWhole goal (score_of goal demands misses).whole
IsWhole-score goal [] misses = IsWhole-none goal
IsWhole-score goal (d ∷ demands) [] = IsWhole-none goal
IsWhole-score goal (d ∷ demands) (n ∷ misses) = IsWhole-joined goal (score_one goal d n) (score_of goal demands misses) (IsWhole-one goal d n) (IsWhole-score goal demands misses)

-- with a better score behind it a program has no worse one
pub IsNoWorse-joined : (goal : Goal) (own a b : Score) → IsWhole goal a.whole → IsWhole goal b.whole → IsNoWorse a b → IsNoWorse (joined goal own a) (joined goal own b)
IsNoWorse-joined Misses own a b a_is b_is h = (let k : a.part * 1 ≤ b.part * 1 = rw a_is at (rw b_is at h) in omega (arith, k))
IsNoWorse-joined Ratio own a b a_is b_is h = at (ltb (own.part * a.whole) (a.part * own.whole))
  where
    at : (less : Bool) → IsNoWorse (cond less a own) (worse own b)
    at true = IsNoWorse-trans a b (worse own b) b_is h (IsNoWorse-worse_second own b)
    at false = IsNoWorse-worse_first own b
