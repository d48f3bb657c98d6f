-- Generators of the masks' own.
use Rattle.std.proofs.Common.{◌≡◌, ℕ, ◌<◌, true, false, ◌==◌, List, length, refl, sym, ◌∙◌, ap}
use Rattle.std.proofs.lemmas.Bool.{ne_eqb, true≢false}
use Rattle.policy_law.specs.Policies.{has_way}
use Rattle.policy_law.specs.Isolation.{KeepsMasks, Respects, is_apart, IsIsolated}
use Rattle.policy_law.specs.KnownPolicies.{with_at, first_way, nth_way, random, random_by_mask}
use Rattle.policy_law.proofs.laws.Masks.{has_way-first_way, has_way-nth_way, has_way-away, length-apart, with_at-same, with_at-other}
use Rattle.policy_law.proofs.Isolated.{IsIsolated-respected}

-- the same number is next
abbrev SameNext : List ℕ → (ℕ → ℕ) → (ℕ → ℕ) → Type 0
SameNext m s t = s (first_way m) ≡ t (first_way m)

-- another mask has another first way
first_way-other : (m its : List ℕ) → 0 < length m → is_apart m its ≡ true → (first_way m == first_way its) ≡ false
first_way-other m its some apart = ne_eqb (first_way m) (first_way its) (λ e.
    true≢false (sym (has_way-first_way its (length-apart m its apart)) ∙ (ap (has_way its) (sym e) ∙ has_way-away m its (first_way m) apart (has_way-first_way m some))))

-- each mask is respected
Respects-random : (next : ℕ → ℕ) (m : List ℕ) → 0 < length m → Respects (SameNext m) (random_by_mask next) m
Respects-random next m some = record {
  victim = λ s t same. ap (nth_way m) same;
  hit = λ s t w same h. same;
  fill = λ s t w same h. with_at-next s t same;
  drop = λ s t w same h. same;
  others_hit = λ s t its w same apart out. same;
  others_fill = λ s t its w same apart out. with_at-other s (first_way its) (first_way m) (next (s (first_way its))) (first_way-other m its some apart) ∙ same;
  others_drop = λ s t w same out. same;
}
  where
    with_at-next : (s t : ℕ → ℕ) → SameNext m s t → with_at s (first_way m) (next (s (first_way m))) (first_way m) ≡ with_at t (first_way m) (next (t (first_way m))) (first_way m)
    with_at-next s t same = with_at-same s t (first_way m) (first_way m) (next (s (first_way m))) same ∙ ap (λ a. with_at t (first_way m) (next a) (first_way m)) same

-- a fill stays in its mask
pub KeepsMasks-random_by_mask : (next : ℕ → ℕ) → KeepsMasks (random_by_mask next)
KeepsMasks-random_by_mask next mask s some = has_way-nth_way mask (s (first_way mask)) some

pub KeepsMasks-random : (next : ℕ → ℕ) → KeepsMasks (random next)
KeepsMasks-random next mask s some = has_way-nth_way mask s some

-- each mask isolates
pub IsIsolated-random : (next : ℕ → ℕ) (m : List ℕ) (s : ℕ → ℕ) → 0 < length m → IsIsolated (random_by_mask next) m s s
IsIsolated-random next m s some = IsIsolated-respected {Agree = SameNext m} (random_by_mask next) m s s some (KeepsMasks-random_by_mask next) (Respects-random next m some) refl
