-- Words with a bit for each way.
use Rattle.std.proofs.Common.{◌≡◌, ℕ, zero, suc, ◌+◌, ◌-◌, ◌*◌, ◌%◌, ◌^◌, ◌<◌, ◌≤◌, Bool, true, false, cond, ◌||◌, ◌&&◌, eqb, ltb, max, bit_or, List, [], ◌∷◌, length, map, get_or, inl, inr, refl, sym, ap, ◌∙◌, arith}
use Rattle.std.specs.Int.{bit_at}
use lib.Lanes.{chunk, mask_l}
use Rattle.std.proofs.lemmas.Bool.{cases_lt, lt-ltb, le-ltb}
use Rattle.std.proofs.lemmas.Bool.Decides.{nat_tests}
use Rattle.std.proofs.lemmas.Nat.{pow_pos}
use Rattle.std.proofs.lemmas.Nat.Bits.{bit_at_or, bit_at-lt, bit_at-zero, bit_at_above, bit_at_cat_low, bit_at_cat_high}
use Rattle.std.proofs.lemmas.Simd.{bit_mask_l, get_or-chunk, length-chunk}
use Rattle.lists.proofs.Bits.{bit_at-mod_pow}
use Rattle.cbm.specs.Masks.{has_way}

-- no way is in 0
pub has_way-zero : (way : ℕ) → has_way 0 way ≡ false
has_way-zero way = rw (bit_at-zero way) refl

-- a bit of one number or the other
eqb-max : (x y : ℕ) → x < 2 → y < 2 → eqb (max x y) 1 ≡ (eqb x 1 || eqb y 1)
eqb-max x y p q = grind (arith, nat_tests)

-- the ways of one word or the other
pub has_way-bit_or : (a b way : ℕ) → has_way (bit_or a b) way ≡ (has_way a way || has_way b way)
has_way-bit_or a b way = ap (λ (m : ℕ). eqb m 1) (bit_at_or a b way) ∙ eqb-max (bit_at a way) (bit_at b way) (bit_at-lt a way) (bit_at-lt b way)

-- ---- the word of the elements that pass a test

-- the tests of a list's elements
get_or-tests : (p : ℕ → Bool) (xs : List ℕ) (i : ℕ) → get_or (map p xs) i false ≡ (ltb i (length xs) && p (get_or xs i 0))
get_or-tests p [] i = sym (ap (λ (b : Bool). b && p (get_or [] i 0)) (le-ltb i 0 (omega arith)))
get_or-tests p (x ∷ xs) zero = sym (ap (λ (b : Bool). b && p x) (lt-ltb 0 (length (x ∷ xs)) (omega arith)))
get_or-tests p (x ∷ xs) (suc i) = get_or-tests p xs i ∙ ap (λ (b : Bool). b && p (get_or xs i 0)) (shifted i (length xs))
  where
    shifted : (i n : ℕ) → ltb i n ≡ ltb (suc i) (suc n)
    shifted i n = grind (arith, nat_tests)

-- a bit of their word
pub has_way-mask_l : (p : ℕ → Bool) (xs : List ℕ) (way : ℕ) → has_way (mask_l (map p xs)) way ≡ (ltb way (length xs) && p (get_or xs way 0))
has_way-mask_l p xs way = ap (λ (m : ℕ). eqb m 1) (bit_mask_l (map p xs) way) ∙ one (get_or (map p xs) way false) ∙ get_or-tests p xs way
  where
    one : (b : Bool) → eqb (cond b 1 0) 1 ≡ b
    one true = refl
    one false = refl

-- of a part of a list
pub has_way-mask_chunk : (p : ℕ → Bool) (xs : List ℕ) (first n way : ℕ) → first + n ≤ length xs → has_way (mask_l (map p (chunk first n xs))) way ≡ (ltb way n && p (get_or xs (first + way) 0))
has_way-mask_chunk p xs first n way room =
    has_way-mask_l p (chunk first n xs) way
    ∙ ap (λ (m : ℕ). ltb way m && p (get_or (chunk first n xs) way 0)) (length-chunk first n xs room)
    ∙ elim (cases_lt way n) [
      | inl lt ↦ ap (λ (x : ℕ). ltb way n && p x) (get_or-chunk first n xs way 0 lt)
      | inr le ↦ none (ltb way n) (p (get_or (chunk first n xs) way 0)) (p (get_or xs (first + way) 0)) (le-ltb way n le)
    ]
  where
    none : (b x y : Bool) → b ≡ false → (b && x) ≡ (b && y)
    none b x y is = rw is refl

-- ---- a word that is shifted up, in 32 bits

-- the ways below are clear
pub has_way-shl_below : (part first way : ℕ) → way < first → way < 32 → has_way (part * 2 ^ first % 2 ^ 32) way ≡ false
has_way-shl_below part first way under lt = ap (λ (m : ℕ). eqb m 1) (bit_at-mod_pow (part * 2 ^ first) 32 way lt ∙ ap (λ (m : ℕ). bit_at m way) (plus_zero (part * 2 ^ first)) ∙ bit_at_cat_low part first 0 way under ∙ bit_at-zero way)
  where
    plus_zero : (m : ℕ) → m ≡ m + 0
    plus_zero m = omega arith

-- the others are those of the word
pub has_way-shl_from : (part first way : ℕ) → first ≤ way → way < 32 → has_way (part * 2 ^ first % 2 ^ 32) way ≡ has_way part (way - first)
has_way-shl_from part first way over lt = ap (λ (m : ℕ). eqb m 1) (bit_at-mod_pow (part * 2 ^ first) 32 way lt ∙ ap (λ (m : ℕ). bit_at m way) (plus_zero (part * 2 ^ first)) ∙ bit_at_cat_high part first 0 way (pow_pos first) over)
  where
    plus_zero : (m : ℕ) → m ≡ m + 0
    plus_zero m = omega arith

-- there are no more than 32
pub has_way-shl_above : (part first way : ℕ) → 32 ≤ way → has_way (part * 2 ^ first % 2 ^ 32) way ≡ false
has_way-shl_above part first way beyond = ap (λ (m : ℕ). eqb m 1) (bit_at_above (part * 2 ^ first % 2 ^ 32) 32 way (omega arith) beyond)
