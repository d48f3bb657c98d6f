-- Bits that are reset over a mask are the mask's own.
use Rattle.std.proofs.Common.{◌≡◌, ℕ, ◌<◌, Bool, true, false, cond, not, ◌==◌, List, length, refl, ◌∙◌, ap, inl, inr}
use Rattle.std.specs.Prelude.{find, unwrap_or}
use Rattle.std.specs.List.{list_all}
use Rattle.std.proofs.lemmas.Bool.{cases_Bool}
use Rattle.policy_law.specs.Policies.{has_way}
use Rattle.policy_law.specs.Isolation.{KeepsMasks, Respects, is_apart, IsIsolated}
use Rattle.policy_law.specs.KnownPolicies.{with_at, first_way, with_use, nru}
use Rattle.policy_law.proofs.laws.Places.{find-same}
use Rattle.policy_law.proofs.laws.Masks.{has_way-found, has_way-away, way-other, with_at-same, with_at-other, list_all-same}
use Rattle.policy_law.proofs.Isolated.{IsIsolated-respected}

-- the same bits of the ways of a mask
abbrev pub SameIn : {A : Type 0} → List ℕ → (ℕ → A) → (ℕ → A) → Type 0
SameIn m s t = (w : ℕ) → has_way m w ≡ true → s w ≡ t w

-- after a use of one of them
with_use-same : (m : List ℕ) (s t : ℕ → Bool) (w : ℕ) → SameIn m s t → SameIn m (with_use m w s) (with_use m w t)
with_use-same m s t w same v h =
    let all : list_all (with_at s w true) m ≡ list_all (with_at t w true) m = list_all-same (with_at s w true) (with_at t w true) m (λ u k. with_at-same s t w u true (same u k)) in
    let here : s v ≡ t v = same v h in
    ap (λ b. cond b (cond (v == w) true (cond (has_way m v) false (s v))) (with_at s w true v)) all
    ∙ ap (λ x. cond (list_all (with_at t w true) m) (cond (v == w) true (cond (has_way m v) false x)) (cond (v == w) true x)) here

-- after a use of another
with_use-other : (m its : List ℕ) (s : ℕ → Bool) (w v : ℕ) → is_apart m its ≡ true → has_way m w ≡ false → has_way m v ≡ true → with_use its w s v ≡ s v
with_use-other m its s w v apart out h =
    let other : (v == w) ≡ false = way-other m v w h out in
    let away : has_way its v ≡ false = has_way-away m its v apart h in
    elim (cases_Bool (list_all (with_at s w true) its)) [ inl k ↦ rw (k, other, away) refl | inr k ↦ rw (k, other) refl ]

-- each mask is respected
Respects-nru : (m : List ℕ) → Respects (SameIn m) (nru (λ ways. ways)) m
Respects-nru m = record {
  victim = λ s t same. ap (λ o. unwrap_or o (first_way m)) (find-same (λ w. not (s w)) (λ w. not (t w)) m (λ w h. ap not (same w h)));
  hit = λ s t w same h. with_use-same m s t w same;
  fill = λ s t w same h. with_use-same m s t w same;
  drop = λ s t w same h. (λ v k. with_at-same s t w v false (same v k));
  others_hit = λ s t its w same apart out. (λ v k. with_use-other m its s w v apart out k ∙ same v k);
  others_fill = λ s t its w same apart out. (λ v k. with_use-other m its s w v apart out k ∙ same v k);
  others_drop = λ s t w same out. (λ v k. with_at-other s w v false (way-other m v w k out) ∙ same v k);
}

-- a fill stays in its mask
pub KeepsMasks-nru : (ways : List ℕ → List ℕ) → KeepsMasks (nru ways)
KeepsMasks-nru ways mask s some = has_way-found (λ w. not (s w)) mask (find (λ w. not (s w)) mask) refl some

-- each mask isolates
pub IsIsolated-nru : (m : List ℕ) (s : ℕ → Bool) → 0 < length m → IsIsolated (nru (λ ways. ways)) m s s
IsIsolated-nru m s some = IsIsolated-respected {Agree = SameIn m} (nru (λ ways. ways)) m s s some (KeepsMasks-nru (λ ways. ways)) (Respects-nru m) (λ w h. refl)
