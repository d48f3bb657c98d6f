-- Stamps of the ways of a mask keep their order.
use Rattle.std.proofs.Common.{◌≡◌, ℕ, ◌<◌, true, false, ◌==◌, nat_lt, List, length, refl, sym, ◌∙◌, ap, inl, inr, arith}
use Rattle.std.proofs.lemmas.Bool.{cases_Bool, lt-ltb, le-ltb}
use Rattle.policy_law.specs.Policies.{has_way}
use Rattle.policy_law.specs.Isolation.{Respects, IsIsolated}
use Rattle.policy_law.specs.KnownPolicies.{Stamps, with_stamp, first_way, least_way, lru, fifo}
use Rattle.policy_law.proofs.laws.Masks.{has_way-first_way, has_way-least_way, least_way-same, way-other, with_at-other}
use Rattle.policy_law.proofs.Isolated.{IsIsolated-respected}

-- the stamps of these ways are in one order, and in the past
record SameOrder (m : List ℕ) (s t : Stamps) : Type 0 where
  order : (v w : ℕ) → has_way m v ≡ true → has_way m w ≡ true → nat_lt (s.stamp v) (s.stamp w) ≡ nat_lt (t.stamp v) (t.stamp w)
  past : (v : ℕ) → has_way m v ≡ true → s.stamp v < s.clock
  past_there : (v : ℕ) → has_way m v ≡ true → t.stamp v < t.clock

-- a stamp after one more
pub past-with_stamp : (s : Stamps) (w v : ℕ) → s.stamp v < s.clock → (with_stamp w s).stamp v < (with_stamp w s).clock
past-with_stamp s w v h = elim (cases_Bool (v == w)) [ inl k ↦ rw k (omega arith) | inr k ↦ rw k (omega arith) ]

-- the order after one more
pub order-with_stamp : (s t : Stamps) (w v u : ℕ) → ((v == w) ≡ false → (u == w) ≡ false → nat_lt (s.stamp v) (s.stamp u) ≡ nat_lt (t.stamp v) (t.stamp u)) → s.stamp v < s.clock → s.stamp u < s.clock → t.stamp v < t.clock → t.stamp u < t.clock
    → nat_lt ((with_stamp w s).stamp v) ((with_stamp w s).stamp u) ≡ nat_lt ((with_stamp w t).stamp v) ((with_stamp w t).stamp u)
order-with_stamp s t w v u same sv su tv tu = elim (cases_Bool (v == w)) [
  | inl k ↦ elim (cases_Bool (u == w)) [
    | inl l ↦ rw (k, l) (le-ltb s.clock s.clock (omega arith) ∙ sym (le-ltb t.clock t.clock (omega arith)))
    | inr l ↦ rw (k, l) (le-ltb s.clock (s.stamp u) (omega arith) ∙ sym (le-ltb t.clock (t.stamp u) (omega arith)))
  ]
  | inr k ↦ elim (cases_Bool (u == w)) [
    | inl l ↦ rw (k, l) (lt-ltb (s.stamp v) s.clock sv ∙ sym (lt-ltb (t.stamp v) t.clock tv))
    | inr l ↦ rw (k, l) (same k l)
  ]
]

-- one of the ways
SameOrder-with_stamp : (m : List ℕ) (s t : Stamps) (w : ℕ) → SameOrder m s t → SameOrder m (with_stamp w s) (with_stamp w t)
SameOrder-with_stamp m s t w same = record {
  order = λ v u h k. order-with_stamp s t w v u (λ _ _. same.order v u h k) (same.past v h) (same.past u k) (same.past_there v h) (same.past_there u k);
  past = λ v h. past-with_stamp s w v (same.past v h);
  past_there = λ v h. past-with_stamp t w v (same.past_there v h);
}

-- another way
SameOrder-other : (m : List ℕ) (s t : Stamps) (w : ℕ) → SameOrder m s t → has_way m w ≡ false → SameOrder m (with_stamp w s) t
SameOrder-other m s t w same out =
    let kept : (v : ℕ) → has_way m v ≡ true → (with_stamp w s).stamp v ≡ s.stamp v = λ v h. with_at-other s.stamp w v s.clock (way-other m v w h out) in
    record {
      order = λ v u h k. ap (λ a. nat_lt a ((with_stamp w s).stamp u)) (kept v h) ∙ (ap (λ a. nat_lt (s.stamp v) a) (kept u k) ∙ same.order v u h k);
      past = λ v h. past-with_stamp s w v (same.past v h);
      past_there = same.past_there;
    }

-- the same victim
victim-same : (m : List ℕ) (s t : Stamps) → 0 < length m → SameOrder m s t → least_way s.stamp (first_way m) m ≡ least_way t.stamp (first_way m) m
victim-same m s t some same = least_way-same m s.stamp t.stamp same.order (first_way m) m (has_way-first_way m some) (λ w h. h)

-- each mask is respected, by uses
Respects-lru : (m : List ℕ) → 0 < length m → Respects (SameOrder m) lru m
Respects-lru m some = record {
  victim = λ s t same. victim-same m s t some same;
  hit = λ s t w same h. SameOrder-with_stamp m s t w same;
  fill = λ s t w same h. SameOrder-with_stamp m s t w same;
  drop = λ s t w same h. same;
  others_hit = λ s t its w same apart out. SameOrder-other m s t w same out;
  others_fill = λ s t its w same apart out. SameOrder-other m s t w same out;
  others_drop = λ s t w same out. same;
}

-- and by fills
Respects-fifo : (m : List ℕ) → 0 < length m → Respects (SameOrder m) fifo m
Respects-fifo m some = record {
  victim = λ s t same. victim-same m s t some same;
  hit = λ s t w same h. same;
  fill = λ s t w same h. SameOrder-with_stamp m s t w same;
  drop = λ s t w same h. same;
  others_hit = λ s t its w same apart out. same;
  others_fill = λ s t its w same apart out. SameOrder-other m s t w same out;
  others_drop = λ s t w same out. same;
}

-- a fill stays in its mask
pub has_way-victim : (mask : List ℕ) (s : Stamps) → 0 < length mask → has_way mask (least_way s.stamp (first_way mask) mask) ≡ true
has_way-victim mask s some = has_way-least_way mask s.stamp (first_way mask) mask (has_way-first_way mask some) (λ w h. h)

-- each mask isolates
pub IsIsolated-stamps : (m : List ℕ) (s : Stamps) → 0 < length m → ((w : ℕ) → s.stamp w < s.clock) → IsIsolated lru m s s × IsIsolated fifo m s s
IsIsolated-stamps m s some past =
    let same : SameOrder m s s = record { order = λ v w h k. refl; past = λ v h. past v; past_there = λ v h. past v } in
    (IsIsolated-respected {Agree = SameOrder m} lru m s s some has_way-victim (Respects-lru m some) same, IsIsolated-respected {Agree = SameOrder m} fifo m s s some has_way-victim (Respects-fifo m some) same)
