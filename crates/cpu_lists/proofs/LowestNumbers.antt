-- The least number of a set, by the lowest bit of a word.
use Rattle.std.proofs.Common.{◌≡◌, ℕ, ◌^◌, ◌<◌, ◌≤◌, Bool, true, false, not, inl, inr, sym, ap, ◌∙◌, arith, w64}
use Rattle.std.specs.Int.{trailing_zeros}
use lib.Count.{trailing_of_zero}
use Rattle.std.proofs.lemmas.Bool.{cases_lt, true≢false}
use Rattle.std.proofs.lemmas.Nat.Bits.{bit_at-trailing_zeros, bit_at-zero}
use Rattle.cpu_lists.specs.Sets.{has}
use Rattle.cpu_lists.proofs.Bits.{has-one, has-zero}

-- 0 has none
has-nothing : (set k : ℕ) → set ≡ 0 → has set k ≡ false
has-nothing set k none = ap (λ (n : ℕ). has n k) none ∙ has-zero 0 k (bit_at-zero k)

-- the place of the lowest 1 is in the set
pub has-trailing_zeros : (set : ℕ) → set < 2 ^ 64 → trailing_zeros w64 set < 64 → has set (trailing_zeros w64 set) ≡ true
has-trailing_zeros set small found = elim (cases_lt 0 set) [
  | inl some ↦ has-one set (trailing_zeros w64 set) (bit_at-trailing_zeros w64 set some small).1
  | inr none ↦ (let all : trailing_zeros w64 set ≡ 64 = ap (trailing_zeros w64) (let zero_set : set ≡ 0 = omega arith in zero_set) ∙ trailing_of_zero 64 in absurd (omega arith))
]

-- no number below it is
pub has-below_trailing_zeros : (set k : ℕ) → set < 2 ^ 64 → k < trailing_zeros w64 set → has set k ≡ false
has-below_trailing_zeros set k small below = elim (cases_lt 0 set) [
  | inl some ↦ has-zero set k ((bit_at-trailing_zeros w64 set some small).2 k below)
  | inr none ↦ has-nothing set k (omega arith)
]

module _ (set chosen part from lowest : ℕ) (wanted : Bool) where
  -- a part of a word begins at a number, and the word says where a set is as wanted
  pub record IsPart : Type 0 where
    pub below : (k : ℕ) → k < from → has part k ≡ false
    pub above : (k : ℕ) → from ≤ k → k < 64 → has part k ≡ has chosen k
    pub yes_chosen : (k : ℕ) → k < 64 → has chosen k ≡ true → has set k ≡ wanted
    pub no_chosen : (k : ℕ) → k < 64 → has chosen k ≡ false → has set k ≡ not wanted
    pub found : lowest < 64 → has part lowest ≡ true
    pub passed : (k : ℕ) → k < lowest → has part k ≡ false

  -- then the least of the part is not below that number
  pub from-le-lowest : from < 64 → IsPart → from ≤ lowest
  from-le-lowest within h = elim (cases_lt lowest from) [
    | inl under ↦ absurd (true≢false (sym (h.found (omega arith)) ∙ h.below lowest under))
    | inr over ↦ over
  ]

  -- the set is there as wanted
  pub has-lowest : from < 64 → IsPart → lowest < 64 → has set lowest ≡ wanted
  has-lowest within h lt = h.yes_chosen lowest lt (sym (h.above lowest (from-le-lowest within h) lt) ∙ h.found lt)

  -- and before it is not
  pub has-before_lowest : IsPart → lowest ≤ 64 → (k : ℕ) → from ≤ k → k < lowest → has set k ≡ not wanted
  has-before_lowest h limit k le lt = h.no_chosen k (omega arith) (sym (h.above k le (omega arith)) ∙ h.passed k lt)
