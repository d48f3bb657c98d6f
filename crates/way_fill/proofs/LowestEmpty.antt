-- The lowest way of a mask that is not valid, by the lowest bit of a word.
use Rattle.std.proofs.Common.{◌≡◌, ℕ, ◌-◌, ◌^◌, ◌<◌, ◌==◌, false, ap, ◌∙◌, arith, inl, inr, refl, min, bit_and}
use Rattle.std.specs.Prelude.{IsTrue}
use Rattle.std.specs.Int.{bit_at}
use lib.Count.{count_trailing_zeros, trailing_of_zero}
use mir.Syntax.{w32}
use Rattle.std.proofs.lemmas.Nat.Bits.{bit_at-trailing_zeros, bit_at_and, bit_at_not, bit_at-zero, bit_at-lt}
use Rattle.std.proofs.lemmas.Bool.{cases_lt, eq-eqb, eqb-true}
use Rattle.std.proofs.lemmas.Nat.{and_le_l}
use Rattle.cbm.specs.Masks.{has_way}
use Rattle.way_fill.specs.Sets.{IsLowestEmpty}

-- the ways of the mask that are not valid, as a word
abbrev left : ℕ → ℕ → ℕ
left valid mask = bit_and mask (4294967295 - valid)

-- a bit of that word
bit_at-left : (valid mask w : ℕ) → valid < 2 ^ 32 → w < 32 → bit_at (left valid mask) w ≡ min (bit_at mask w) (1 - bit_at valid w)
bit_at-left valid mask w fits within = bit_at_and mask (4294967295 - valid) w ∙ ap (min (bit_at mask w)) (bit_at_not w32 valid w fits within)

-- a way that is not of the word is valid where the mask has it
has_way-left : (valid mask w : ℕ) → valid < 2 ^ 32 → w < 32 → bit_at (left valid mask) w ≡ 0 → IsTrue (has_way mask w) → IsTrue (has_way valid w)
has_way-left valid mask w fits within clear allowed =
    let is : bit_at mask w ≡ 1 = eqb-true (bit_at mask w) 1 allowed in
    eq-eqb (bit_at valid w) 1 (omega (arith, is, clear, bit_at-left valid mask w fits within, bit_at-lt valid w))

-- the lowest bit of the word, where it has one
IsLowestEmpty-some : (valid mask : ℕ) → valid < 2 ^ 32 → mask < 2 ^ 32 → 0 < left valid mask → IsLowestEmpty valid mask (count_trailing_zeros 32 (left valid mask))
IsLowestEmpty-some valid mask fits allowed some =
    let h = bit_at-trailing_zeros w32 (left valid mask) some (omega (arith, and_le_l mask (4294967295 - valid))) in
    let t : ℕ = count_trailing_zeros 32 (left valid mask) in
    let within : t < 32 = h.0 in
    let bit : bit_at (left valid mask) t ≡ 1 = h.1 in
    let both : bit_at (left valid mask) t ≡ min (bit_at mask t) (1 - bit_at valid t) = bit_at-left valid mask t fits within in
    let small : bit_at mask t < 2 = bit_at-lt mask t in
    record {
      limit = omega arith;
      allowed = λ _. eq-eqb (bit_at mask t) 1 (omega arith);
      empty = λ _. zero-no_bit (bit_at valid t) (omega arith);
      full_below = λ w l. has_way-left valid mask w fits (omega arith) (h.2 w l);
    }
  where
    zero-no_bit : (b : ℕ) → b ≡ 0 → (b == 1) ≡ false
    zero-no_bit b is = rw is refl

-- and where it has none
IsLowestEmpty-none : (valid mask : ℕ) → valid < 2 ^ 32 → left valid mask ≡ 0 → IsLowestEmpty valid mask (count_trailing_zeros 32 (left valid mask))
IsLowestEmpty-none valid mask fits none =
    let t : ℕ = count_trailing_zeros 32 (left valid mask) in
    let last : t ≡ 32 = ap (count_trailing_zeros 32) none ∙ trailing_of_zero 32 in
    record {
      limit = omega arith;
      allowed = λ l. absurd (omega arith);
      empty = λ l. absurd (omega arith);
      full_below = λ w l. has_way-left valid mask w fits (omega arith) (ap (λ n. bit_at n w) none ∙ bit_at-zero w);
    }

-- in both cases
pub IsLowestEmpty-trailing_zeros : (valid mask : ℕ) → valid < 2 ^ 32 → mask < 2 ^ 32 → IsLowestEmpty valid mask (count_trailing_zeros 32 (left valid mask))
IsLowestEmpty-trailing_zeros valid mask fits allowed = elim (cases_lt 0 (left valid mask)) [
  | inl some ↦ IsLowestEmpty-some valid mask fits allowed some
  | inr none ↦ IsLowestEmpty-none valid mask fits (omega arith)
]
