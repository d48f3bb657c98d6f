-- The numbers of a set, against shifts, sums of bits and parts of the set.
use Rattle.std.proofs.Common.{◌≡◌, ℕ, ◌+◌, ◌-◌, ◌*◌, ◌/◌, ◌%◌, ◌^◌, ◌<◌, ◌≤◌, true, false, eqb, max, bit_or, inl, inr, refl, sym, ap, ◌∙◌, arith}
use Rattle.std.specs.Int.{bit_at}
use Rattle.std.proofs.lemmas.Bool.{eq-eqb, eqb-true, eqb-false, cases_lt, cases_Bool}
use Rattle.std.proofs.lemmas.Nat.Bits.{bit_at_above, bit_at-zero, bit_at-lt, bit_at_or, bit_at_cat_low, bit_at_cat_high, same_from_bits}
use Rattle.lists.proofs.Bits.{bit_at-div_pow, bit_at-mod_pow, div_pow-zero}
use Rattle.cpu_lists.specs.Sets.{has}

-- a bit that is 1
pub has-one : (set k : ℕ) → bit_at set k ≡ 1 → has set k ≡ true
has-one set k e = eq-eqb (bit_at set k) 1 e

-- a bit that is 0
pub has-zero : (set k : ℕ) → bit_at set k ≡ 0 → has set k ≡ false
has-zero set k e = rw e refl

-- a CPU that is not there is a bit 0
pub bit_at-has_false : (set k : ℕ) → has set k ≡ false → bit_at set k ≡ 0
bit_at-has_false set k e = let ne = eqb-false (bit_at set k) 1 e in let lt = bit_at-lt set k in omega arith

-- equal bits
pub has-same : (a b i k : ℕ) → bit_at a i ≡ bit_at b k → has a i ≡ has b k
has-same a b i k e = ap (λ (b : ℕ). eqb b 1) e

-- a small set has no great number
pub has-above : (set m k : ℕ) → set < 2 ^ m → m ≤ k → has set k ≡ false
has-above set m k small le = has-zero set k (bit_at_above set m k small le)

-- a set with no number from m on is below 2 ^ m
pub lt-pow_from_bits : (set m : ℕ) → ((k : ℕ) → m ≤ k → has set k ≡ false) → set < 2 ^ m
lt-pow_from_bits set m h =
    let none : set / 2 ^ m ≡ 0 = same_from_bits (set / 2 ^ m) 0 (λ i. bit_at-div_pow set m i ∙ bit_at-has_false set (m + i) (h (m + i) (omega arith)) ∙ sym (bit_at-zero i)) in
    div_pow-zero set m none

-- ---- a group after others: `(low << 32) | group`

-- what a shift keeps of 64 bits
mul_pow-mod_pow : (low : ℕ) → low * 2 ^ 32 % 2 ^ 64 ≡ (low % 2 ^ 32) * 2 ^ 32 + 0
mul_pow-mod_pow low = omega arith

-- a group after others
pub has-bit_or_group : (value low group k : ℕ) → ((i : ℕ) → i < 64 → has low i ≡ has value i) → group < 2 ^ 32 → k < 64 → has (bit_or (low * 2 ^ 32 % 2 ^ 64) group) k ≡ has (value * 2 ^ 32 + group) k
has-bit_or_group value low group k same small lt = has-same (bit_or (low * 2 ^ 32 % 2 ^ 64) group) (value * 2 ^ 32 + group) k k (bit_at_or (low * 2 ^ 32 % 2 ^ 64) group k ∙ elim (cases_lt k 32) [
  | inl under ↦ (let none : bit_at (low * 2 ^ 32 % 2 ^ 64) k ≡ 0 = ap (λ (n : ℕ). bit_at n k) (mul_pow-mod_pow low) ∙ bit_at_cat_low (low % 2 ^ 32) 32 0 k under ∙ bit_at-zero k in
      ap (λ (b : ℕ). max b (bit_at group k)) none ∙ max_zero (bit_at group k) ∙ sym (bit_at_cat_low value 32 group k under))
  | inr over ↦ (let front : bit_at (low * 2 ^ 32 % 2 ^ 64) k ≡ bit_at low (k - 32) = ap (λ (n : ℕ). bit_at n k) (mul_pow-mod_pow low) ∙ bit_at_cat_high (low % 2 ^ 32) 32 0 k (omega arith) over ∙ bit_at-mod_pow low 32 (k - 32) (omega arith) in
      let none : bit_at group k ≡ 0 = bit_at_above group 32 k small over in
      ap (λ (b : ℕ). max b (bit_at group k)) front ∙ ap (λ (b : ℕ). max (bit_at low (k - 32)) b) none ∙ zero_max (bit_at low (k - 32)) ∙ bits (k - 32) (same (k - 32) (omega arith)) ∙ sym (bit_at_cat_high value 32 group k small over))
])
  where
    max_zero : (n : ℕ) → max 0 n ≡ n
    max_zero n = omega arith

    zero_max : (n : ℕ) → max n 0 ≡ n
    zero_max n = omega arith

    bits : (i : ℕ) → has low i ≡ has value i → bit_at low i ≡ bit_at value i
    bits i e = elim (cases_Bool (has low i)) [
      | inl yes_low ↦ eqb-true (bit_at low i) 1 yes_low ∙ sym (eqb-true (bit_at value i) 1 (sym e ∙ yes_low))
      | inr no_low ↦ bit_at-has_false low i no_low ∙ sym (bit_at-has_false value i (sym e ∙ no_low))
    ]

-- the numbers from 64 on have moved up by 32
pub has-mul_pow_add : (value group k : ℕ) → group < 2 ^ 32 → 64 ≤ k → has (value * 2 ^ 32 + group) k ≡ has value (k - 32)
has-mul_pow_add value group k small le = has-same (value * 2 ^ 32 + group) value k (k - 32) (bit_at_cat_high value 32 group k small (omega arith))

-- those that moved past 63
pub has-div_pow : (low k : ℕ) → has (low / 2 ^ 32) k ≡ has low (k + 32)
has-div_pow low k = has-same (low / 2 ^ 32) low k (k + 32) (bit_at-div_pow low 32 k ∙ ap (bit_at low) (let e : 32 + k ≡ k + 32 = omega arith in e))
