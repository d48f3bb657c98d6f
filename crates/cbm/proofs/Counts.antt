-- How many bits a mask has, and whether two masks have one in common.
use Rattle.std.proofs.Common.{◌≡◌, ◌≢◌, ℕ, zero, suc, ◌+◌, ◌/◌, ◌%◌, ◌^◌, ◌<◌, Bool, true, false, cond, eqb, ◌&&◌, bit_and, count_ones, List, ◌∷◌, length, filter, refl, sym, ap, ◌∙◌, arith, pow-suc, zero-add}
use Rattle.std.specs.Int.{bit_at}
use Rattle.std.specs.List.{range_with_len}
use Rattle.std.proofs.lemmas.Bool.{and_parts}
use Rattle.std.proofs.lemmas.Nat.Bits.{bit_at-zero, bit_at-suc, bit_at_lowest}
use lib.Count.{ones, ones_step}
use Rattle.lists.proofs.Filters.{list_any-filter, list_any-filter_none}
use Rattle.cbm.specs.Masks.{has_way, overlaps, ways_of}
use Rattle.cbm.proofs.laws.Ways.{has_way-bit_and, has_way-from, has_way-one, has_way-zero}

-- half of a mask has its ways one place lower
length-filter_half : (mask a n : ℕ) → length (filter (has_way (mask / 2)) (range_with_len a n)) ≡ length (filter (has_way mask) (range_with_len (a + 1) n))
length-filter_half mask a zero = refl
length-filter_half mask a (suc n) =
    let same : has_way mask (a + 1) ≡ has_way (mask / 2) a = ap (λ (b : ℕ). eqb b 1) (ap (bit_at mask) (let e : a + 1 ≡ suc a = omega arith in e) ∙ bit_at-suc mask a) in
    rw same (each (has_way (mask / 2) a) _ _ (length-filter_half mask (a + 1) n))
  where
    each : (b : Bool) → (xs ys : List ℕ) → length xs ≡ length ys → length (cond b (a ∷ xs) xs) ≡ length (cond b ((a + 1) ∷ ys) ys)
    each true xs ys e = ap suc e
    each false xs ys e = e

-- zero has no bit that is set
count_ones-zero : count_ones 0 ≡ 0
unfolding ones
count_ones-zero = refl

-- a mask below a power of two has as many ways below that power as bits that are set
count_ones-below : (n mask : ℕ) → mask < 2 ^ n → count_ones mask ≡ length (filter (has_way mask) (range_with_len 0 n))
count_ones-below zero mask small = ap count_ones (let none : mask ≡ 0 = omega arith in none) ∙ count_ones-zero
count_ones-below (suc n) mask small =
    let half : mask / 2 < 2 ^ n = omega (arith, pow-suc 2 n) in
    let rest : count_ones (mask / 2) ≡ length (filter (has_way mask) (range_with_len 1 n)) = count_ones-below n (mask / 2) half ∙ length-filter_half mask 0 n in
    ones_step mask ∙ ap (λ (r : ℕ). mask % 2 + r) rest ∙ lowest (mask % 2) (mod-lt mask) (bit_at_lowest mask)
  where
    mod-lt : (m : ℕ) → m % 2 < 2
    mod-lt m = omega arith

    lowest : (b : ℕ) → b < 2 → bit_at mask 0 ≡ b → b + length (filter (has_way mask) (range_with_len 1 n)) ≡ length (filter (has_way mask) (range_with_len 0 (suc n)))
    lowest zero lt e = rw (has_way-zero mask 0 e) (zero-add _)
    lowest (suc zero) lt e = rw (has_way-one mask 0 e) (omega arith)
    lowest (suc (suc b)) lt e = absurd (omega arith)

-- a mask has as many ways as bits that are set
pub count_ones-ways : (mask : ℕ) → mask < 2 ^ 64 → count_ones mask ≡ length (ways_of mask)
unfolding ways_of
count_ones-ways mask small = count_ones-below 64 mask small

-- ---- two masks

-- two masks with no bit in common have no way in common
pub overlaps-none : (a b : ℕ) → bit_and a b ≡ 0 → overlaps a b ≡ false
unfolding overlaps ways_of
overlaps-none a b e = list_any-filter_none (has_way a) (has_way b) 0 64 (λ k low high yes_k. apart k yes_k (sym (has_way-bit_and a b k) ∙ has_way-zero (bit_and a b) k (ap (λ (n : ℕ). bit_at n k) e ∙ bit_at-zero k)))
  where
    apart : (k : ℕ) → has_way a k ≡ true → (has_way a k && has_way b k) ≡ false → has_way b k ≡ false
    apart k yes_k none = rw yes_k at none

-- two masks with a bit in common have a way in common
pub overlaps-some : (a b : ℕ) → bit_and a b ≢ 0 → bit_and a b < 2 ^ 64 → overlaps a b ≡ true
unfolding overlaps ways_of
overlaps-some a b ne small =
    let whole : bit_and a b / 2 ^ 0 ≢ 0 = λ e. ne (omega arith) in
    let w = has_way-from (bit_and a b) 0 small whole in
    let in_both : (has_way a w.0 && has_way b w.0) ≡ true = sym (has_way-bit_and a b w.0) ∙ w.3 in
    let both = and_parts (has_way a w.0) (has_way b w.0) in_both in
    list_any-filter (has_way a) (has_way b) 0 64 w.0 (omega arith) (omega (arith, w.2)) both.0 both.1
