-- The ways of a mask.
use Rattle.std.proofs.Common.{◌≡◌, ◌≢◌, ℕ, zero, suc, ◌+◌, ◌/◌, ◌^◌, ◌<◌, ◌≤◌, Bool, true, false, ◌&&◌, ◌||◌, eqb, max, min, bit_and, bit_or, [], filter, inl, inr, refl, sym, ap, ◌∙◌, arith, div-le_self, w64, length}
use Rattle.std.specs.Int.{bit_at, trailing_zeros}
use Rattle.std.specs.List.{list_any, range_with_len}
use Rattle.std.proofs.lemmas.Bool.{eq-eqb, ne_eqb, cases_lt, false≢true}
use Rattle.std.proofs.lemmas.Nat.Bits.{bit_at-trailing_zeros, bit_at_above, bit_at-zero, bit_at-lt, bit_at_and, bit_at_or, same_from_bits_below}
use Rattle.std.proofs.lemmas.List.FromFn.{length-range_with_len}
use Rattle.std.proofs.lemmas.List.Sums.{count_by-le-length, length-filter}
use Rattle.lists.proofs.Bits.{bit_at-div_pow}
use Rattle.lists.proofs.Filters.{filter-none, list_any-filter, list_any-filter_none}
use Rattle.cbm.specs.Masks.{has_way, ways_of}

-- a way whose bit is 1 is there
pub has_way-one : (mask k : ℕ) → bit_at mask k ≡ 1 → has_way mask k ≡ true
has_way-one mask k e = eq-eqb (bit_at mask k) 1 e

-- a way whose bit is 0 is not
pub has_way-zero : (mask k : ℕ) → bit_at mask k ≡ 0 → has_way mask k ≡ false
has_way-zero mask k e = rw e refl

-- a mask that is not 0 from a way on has some way from there on
pub has_way-from : (mask at : ℕ) → mask < 2 ^ 64 → mask / 2 ^ at ≢ 0 → (k : ℕ) × (at ≤ k) × (k < 64) × (has_way mask k ≡ true)
has_way-from mask at small ne =
    let rest = mask / 2 ^ at in
    let le : rest ≤ mask = div-le_self mask (2 ^ at) in
    let t = bit_at-trailing_zeros w64 rest (omega arith) (omega arith) in
    let k = at + trailing_zeros w64 rest in
    let one : bit_at mask k ≡ 1 = sym (bit_at-div_pow mask at (trailing_zeros w64 rest)) ∙ t.1 in
    (k, omega arith, below k one, has_way-one mask k one)
  where
    below : (k : ℕ) → bit_at mask k ≡ 1 → k < 64
    below k one = elim (cases_lt k 64) [
      | inl lt ↦ lt
      | inr le ↦ (let none : bit_at mask k ≡ 0 = bit_at_above mask 64 k small le in absurd (omega arith))
    ]

-- the mask 0 has no way
pub ways_of-zero : (mask : ℕ) → mask ≡ 0 → ways_of mask ≡ []
unfolding ways_of
ways_of-zero mask e = filter-none (has_way mask) 0 64 (λ k low high. has_way-zero mask k (ap (λ (n : ℕ). bit_at n k) e ∙ bit_at-zero k))

-- ---- two masks

-- the ways of a union
pub has_way-bit_or : (a b k : ℕ) → has_way (bit_or a b) k ≡ (has_way a k || has_way b k)
has_way-bit_or a b k = ap (λ (n : ℕ). eqb n 1) (bit_at_or a b k) ∙ either (bit_at a k) (bit_at b k) (bit_at-lt a k) (bit_at-lt b k)
  where
    either : (m n : ℕ) → m < 2 → n < 2 → eqb (max m n) 1 ≡ (eqb m 1 || eqb n 1)
    either zero zero l r = refl
    either zero (suc zero) l r = refl
    either (suc zero) zero l r = refl
    either (suc zero) (suc zero) l r = refl
    either (suc (suc m)) n l r = absurd (omega arith)
    either m (suc (suc n)) l r = absurd (omega arith)

-- the ways that two masks share
pub has_way-bit_and : (a b k : ℕ) → has_way (bit_and a b) k ≡ (has_way a k && has_way b k)
has_way-bit_and a b k = ap (λ (n : ℕ). eqb n 1) (bit_at_and a b k) ∙ both (bit_at a k) (bit_at b k) (bit_at-lt a k) (bit_at-lt b k)
  where
    both : (m n : ℕ) → m < 2 → n < 2 → eqb (min m n) 1 ≡ (eqb m 1 && eqb n 1)
    both zero zero l r = refl
    both zero (suc zero) l r = refl
    both (suc zero) zero l r = refl
    both (suc zero) (suc zero) l r = refl
    both (suc (suc m)) n l r = absurd (omega arith)
    both m (suc (suc n)) l r = absurd (omega arith)

-- whether a number is among the ways tells whether the mask has it
pub list_any-ways_of : (mask k : ℕ) → k < 64 → list_any (eqb k) (ways_of mask) ≡ has_way mask k
unfolding ways_of
list_any-ways_of mask k small = tell (has_way mask k) refl
  where
    differs : (w : ℕ) → has_way mask k ≡ false → has_way mask w ≡ true → eqb k w ≡ false
    differs w lacks_k yes_w = ne_eqb k w (λ e. false≢true (sym lacks_k ∙ ap (has_way mask) e ∙ yes_w))

    tell : (b : Bool) → b ≡ has_way mask k → list_any (eqb k) (filter (has_way mask) (range_with_len 0 64)) ≡ b
    tell true e = list_any-filter (has_way mask) (eqb k) 0 64 k (omega arith) (omega arith) (sym e) (eq-eqb k k refl)
    tell false e = list_any-filter_none (has_way mask) (eqb k) 0 64 (λ w low high yes_w. differs w (sym e) yes_w)

-- two masks with the same ways are equal
pub ways_of-injective : (a b : ℕ) → a < 2 ^ 64 → b < 2 ^ 64 → ways_of a ≡ ways_of b → a ≡ b
ways_of-injective a b small_a small_b e = same_from_bits_below 64 a b small_a small_b (λ k lt. bits (bit_at a k) (bit_at b k) (bit_at-lt a k) (bit_at-lt b k) (sym (list_any-ways_of a k lt) ∙ ap (list_any (eqb k)) e ∙ list_any-ways_of b k lt))
  where
    bits : (m n : ℕ) → m < 2 → n < 2 → eqb m 1 ≡ eqb n 1 → m ≡ n
    bits zero zero l r e = refl
    bits (suc zero) (suc zero) l r e = refl
    bits zero (suc zero) l r e = absurd cc
    bits (suc zero) zero l r e = absurd cc
    bits (suc (suc m)) n l r e = absurd (omega arith)
    bits m (suc (suc n)) l r e = absurd (omega arith)

-- a mask has at most 64 ways
pub length-ways_of : (mask : ℕ) → length (ways_of mask) ≤ 64
unfolding ways_of
length-ways_of mask = (let most = count_by-le-length (has_way mask) (range_with_len 0 64) in omega (arith, length-filter (has_way mask) (range_with_len 0 64), length-range_with_len 0 64))
