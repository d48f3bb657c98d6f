-- Intervals that age over a mask are the mask's own.
use Rattle.std.proofs.Common.{◌≡◌, ℕ, ◌+◌, ◌-◌, ◌<◌, true, false, cond, ◌==◌, nat_lt, List, length, refl, ◌∙◌, ap}
use Rattle.std.specs.Prelude.{min}
use Rattle.policy_law.specs.Policies.{has_way}
use Rattle.policy_law.specs.Isolation.{KeepsMasks, Respects, is_apart, IsIsolated}
use Rattle.policy_law.specs.KnownPolicies.{with_at, first_way, farthest_way, with_age, srrip}
use Rattle.policy_law.proofs.laws.Masks.{has_way-first_way, has_way-least_way, least_way-same, has_way-away, way-other, with_at-same, with_at-other}
use Rattle.policy_law.proofs.Resets.{SameIn}
use Rattle.policy_law.proofs.Isolated.{IsIsolated-respected}

-- the same victim
farthest_way-same : (m : List ℕ) (s t : ℕ → ℕ) → 0 < length m → SameIn m s t → farthest_way m s ≡ farthest_way m t
farthest_way-same m s t some same =
    least_way-same m (λ w. 3 - s w) (λ w. 3 - t w) (λ v w h k. ap (λ a. nat_lt (3 - a) (3 - s w)) (same v h) ∙ ap (λ a. nat_lt (3 - t v) (3 - a)) (same w k)) (first_way m) m (has_way-first_way m some) (λ w h. h)

-- a fill stays in its mask
pub KeepsMasks-srrip : (ways : List ℕ → List ℕ) → KeepsMasks (srrip ways)
KeepsMasks-srrip ways mask s some = has_way-least_way mask (λ w. 3 - s w) (first_way mask) mask (has_way-first_way mask some) (λ w h. h)

-- after a fill of one of the ways
with_age-same : (m : List ℕ) (s t : ℕ → ℕ) (w : ℕ) → 0 < length m → SameIn m s t → SameIn m (with_at (with_age m (3 - s (farthest_way m s)) s) w 2) (with_at (with_age m (3 - t (farthest_way m t)) t) w 2)
with_age-same m s t w some same v h =
    let far : s (farthest_way m s) ≡ t (farthest_way m t) = same (farthest_way m s) (KeepsMasks-srrip (λ ways. ways) m s some) ∙ ap t (farthest_way-same m s t some same) in
    with_at-same (with_age m (3 - s (farthest_way m s)) s) (with_age m (3 - t (farthest_way m t)) t) w v 2
    (ap (λ a. cond (has_way m v) (min 3 (a + (3 - s (farthest_way m s)))) a) (same v h) ∙ ap (λ a. cond (has_way m v) (min 3 (t v + (3 - a))) (t v)) far)

-- after a fill of another way
with_age-other : (m its : List ℕ) (s : ℕ → ℕ) (w v by : ℕ) → is_apart m its ≡ true → has_way m w ≡ false → has_way m v ≡ true → with_at (with_age its by s) w 2 v ≡ s v
with_age-other m its s w v by apart out h =
    let other : (v == w) ≡ false = way-other m v w h out in
    let away : has_way its v ≡ false = has_way-away m its v apart h in
    rw (other, away) refl

-- each mask is respected
Respects-srrip : (m : List ℕ) → 0 < length m → Respects (SameIn m) (srrip (λ ways. ways)) m
Respects-srrip m some = record {
  victim = λ s t same. farthest_way-same m s t some same;
  hit = λ s t w same h. (λ v k. with_at-same s t w v 0 (same v k));
  fill = λ s t w same h. with_age-same m s t w some same;
  drop = λ s t w same h. (λ v k. with_at-same s t w v 3 (same v k));
  others_hit = λ s t its w same apart out. (λ v k. with_at-other s w v 0 (way-other m v w k out) ∙ same v k);
  others_fill = λ s t its w same apart out. (λ v k. with_age-other m its s w v (3 - s (farthest_way its s)) apart out k ∙ same v k);
  others_drop = λ s t w same out. (λ v k. with_at-other s w v 3 (way-other m v w k out) ∙ same v k);
}

-- each mask isolates
pub IsIsolated-srrip : (m : List ℕ) (s : ℕ → ℕ) → 0 < length m → IsIsolated (srrip (λ ways. ways)) m s s
IsIsolated-srrip m s some = IsIsolated-respected {Agree = SameIn m} (srrip (λ ways. ways)) m s s some (KeepsMasks-srrip (λ ways. ways)) (Respects-srrip m some) (λ w h. refl)
