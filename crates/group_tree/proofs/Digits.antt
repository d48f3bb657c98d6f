-- Counts of ways in binary, digit by digit.
use Rattle.std.proofs.Common.{◌≡◌, ℕ, zero, suc, ◌+◌, ◌*◌, ◌%◌, ◌^◌, ◌<◌, ◌≤◌, min, Bool, true, false, ◌||◌, cond, eqb, bit_and, bit_xor, List, [], ◌∷◌, ◌++◌, length, replicate, get_or, set, take, drop, refl, sym, subst, ap, ◌∙◌, arith, add-one}
use Rattle.std.specs.Int.{bit_at}
use Rattle.std.specs.Int.Bits.{xor_zero_r, and_zero_l}
use Rattle.std.specs.List.{list_any}
use Rattle.std.proofs.Math.Nat.{pow-suc}
use Rattle.std.proofs.lemmas.Nat.Bits.{bit_at-lt, bit_at-zero, bit_at_and, bit_at_xor}
use Rattle.cbm.specs.Masks.{has_way}
use Rattle.group_tree.specs.Counts.{CountsAre, added, count_of, removed}

-- ---- one digit

-- a digit and what is carried on are the sum
bit_at-carried : (digit carry way : ℕ) → bit_at (bit_xor digit carry) way + 2 * bit_at (bit_and carry digit) way ≡ bit_at digit way + bit_at carry way
bit_at-carried digit carry way = rw (bit_at_xor digit carry way, bit_at_and carry digit way) (sum (bit_at digit way) (bit_at carry way) (bit_at-lt digit way) (bit_at-lt carry way))
  where
    sum : (m n : ℕ) → m < 2 → n < 2 → (m + n) % 2 + 2 * min n m ≡ m + n
    sum zero zero l r = refl
    sum zero (suc zero) l r = refl
    sum (suc zero) zero l r = refl
    sum (suc zero) (suc zero) l r = refl
    sum (suc (suc m)) n l r = absurd (omega arith)
    sum m (suc (suc n)) l r = absurd (omega arith)

-- a digit and what is borrowed are the difference
bit_at-borrowed : (digit borrow way : ℕ) → bit_at digit way + 2 * bit_at (bit_and borrow (bit_xor digit borrow)) way ≡ bit_at (bit_xor digit borrow) way + bit_at borrow way
bit_at-borrowed digit borrow way = rw (bit_at_and borrow (bit_xor digit borrow) way, bit_at_xor digit borrow way) (difference (bit_at digit way) (bit_at borrow way) (bit_at-lt digit way) (bit_at-lt borrow way))
  where
    difference : (m n : ℕ) → m < 2 → n < 2 → m + 2 * min n ((m + n) % 2) ≡ (m + n) % 2 + n
    difference zero zero l r = refl
    difference zero (suc zero) l r = refl
    difference (suc zero) zero l r = refl
    difference (suc zero) (suc zero) l r = refl
    difference (suc (suc m)) n l r = absurd (omega arith)
    difference m (suc (suc n)) l r = absurd (omega arith)

-- ---- all digits

length-added : (carry : ℕ) (digits : List ℕ) → length (added carry digits) ≡ length digits
length-added carry [] = refl
length-added carry (digit ∷ higher) = ap suc (length-added (bit_and carry digit) higher)

length-removed : (borrow : ℕ) (digits : List ℕ) → length (removed borrow digits) ≡ length digits
length-removed borrow [] = refl
length-removed borrow (digit ∷ higher) = ap suc (length-removed (bit_and borrow (bit_xor digit borrow)) higher)

-- a mask counts one for each of its ways, where the digits have room for it
count_of-added : (way carry : ℕ) (digits : List ℕ) → count_of way digits + bit_at carry way < 2 ^ length digits → count_of way (added carry digits) ≡ count_of way digits + bit_at carry way
count_of-added way carry [] room = let none : 2 ^ 0 ≡ 1 = refl in omega arith
count_of-added way carry (digit ∷ higher) room =
    let sum = bit_at-carried digit carry way in
    let double : 2 ^ suc (length higher) ≡ 2 ^ length higher * 2 = pow-suc 2 (length higher) in
    let rest = count_of-added way (bit_and carry digit) higher (omega arith) in
    omega arith

-- and takes one away for each of its ways, where each has some
count_of-removed : (way borrow : ℕ) (digits : List ℕ) → bit_at borrow way ≤ count_of way digits → count_of way (removed borrow digits) + bit_at borrow way ≡ count_of way digits
count_of-removed way borrow [] some = omega arith
count_of-removed way borrow (digit ∷ higher) some =
    let difference = bit_at-borrowed digit borrow way in
    let small = bit_at-lt (bit_xor digit borrow) way in
    let rest = count_of-removed way (bit_and borrow (bit_xor digit borrow)) higher (omega arith) in
    omega arith

-- no mask counts nothing
count_of-replicate : (way n : ℕ) → count_of way (replicate n 0) ≡ 0
count_of-replicate way zero = refl
count_of-replicate way (suc n) = (let none = bit_at-zero way in let rest = count_of-replicate way n in omega arith)

-- ---- what is counted

pub CountsAre-same : (digits : List ℕ) (number next : ℕ → ℕ) → CountsAre digits number → ((way : ℕ) → next way ≡ number way) → CountsAre digits next
CountsAre-same digits number next are same = record { size = are.size; each = λ way. are.each way ∙ sym (same way) }

pub CountsAre-added : (mask : ℕ) (digits : List ℕ) (number next : ℕ → ℕ) → CountsAre digits number → ((way : ℕ) → next way ≡ number way + bit_at mask way) → ((way : ℕ) → next way < 512)
    → CountsAre (added mask digits) next
CountsAre-added mask digits number next are more few = record {
  size = length-added mask digits ∙ are.size;
  each = λ way. (
      let room : 2 ^ length digits ≡ 512 = ap (λ (n : ℕ). 2 ^ n) are.size in
      count_of-added way mask digits (omega (arith, are.each way, more way, few way, room)) ∙ omega (arith, are.each way, more way));
}

pub CountsAre-removed : (mask : ℕ) (digits : List ℕ) (number next : ℕ → ℕ) → CountsAre digits number → ((way : ℕ) → next way + bit_at mask way ≡ number way)
    → CountsAre (removed mask digits) next
CountsAre-removed mask digits number next are fewer = record {
  size = length-removed mask digits ∙ are.size;
  each = λ way. (
      let rest = count_of-removed way mask digits (omega (arith, are.each way, fewer way)) in
      omega (arith, are.each way, fewer way, rest));
}

pub CountsAre-none : (number : ℕ → ℕ) → ((way : ℕ) → number way ≡ 0) → CountsAre (replicate 9 0) number
CountsAre-none number none = record { size = refl; each = λ way. count_of-replicate way 9 ∙ sym (none way) }

-- ---- one digit after the other

-- the digits from k on, where those before are done
added-step : (carry : ℕ) (digits : List ℕ) (k d : ℕ) → k < length digits
    → take k digits ++ added carry (drop k digits)
    ≡ take (suc k) (set digits k (bit_xor (get_or digits k d) carry)) ++ added (bit_and carry (get_or digits k d)) (drop (suc k) (set digits k (bit_xor (get_or digits k d) carry)))
added-step carry [] k d within = absurd (omega arith)
added-step carry (digit ∷ higher) zero d within = refl
added-step carry (digit ∷ higher) (suc k) d within = ap (λ (xs : List ℕ). digit ∷ xs) (added-step carry higher k d (omega arith))

pub added-next : (carry : ℕ) (digits : List ℕ) (k d : ℕ) → k < length digits
    → take k digits ++ added carry (drop k digits)
    ≡ take (k + 1) (set digits k (bit_xor (get_or digits k d) carry)) ++ added (bit_and carry (get_or digits k d)) (drop (k + 1) (set digits k (bit_xor (get_or digits k d) carry)))
added-next carry digits k d within = rw add-one (added-step carry digits k d within)

removed-step : (borrow : ℕ) (digits : List ℕ) (k d : ℕ) → k < length digits
    → take k digits ++ removed borrow (drop k digits)
    ≡ take (suc k) (set digits k (bit_xor (get_or digits k d) borrow)) ++ removed (bit_and borrow (bit_xor (get_or digits k d) borrow)) (drop (suc k) (set digits k (bit_xor (get_or digits k d) borrow)))
removed-step borrow [] k d within = absurd (omega arith)
removed-step borrow (digit ∷ higher) zero d within = refl
removed-step borrow (digit ∷ higher) (suc k) d within = ap (λ (xs : List ℕ). digit ∷ xs) (removed-step borrow higher k d (omega arith))

pub removed-next : (borrow : ℕ) (digits : List ℕ) (k d : ℕ) → k < length digits
    → take k digits ++ removed borrow (drop k digits)
    ≡ take (k + 1) (set digits k (bit_xor (get_or digits k d) borrow)) ++ removed (bit_and borrow (bit_xor (get_or digits k d) borrow)) (drop (k + 1) (set digits k (bit_xor (get_or digits k d) borrow)))
removed-next borrow digits k d within = rw add-one (removed-step borrow digits k d within)

-- where nothing is carried the digits stay
added-zero : (digits : List ℕ) → added 0 digits ≡ digits
added-zero [] = refl
added-zero (digit ∷ higher) = rw (xor_zero_r digit, and_zero_l digit) (ap (λ (xs : List ℕ). digit ∷ xs) (added-zero higher))

pub added-done : (k : ℕ) (digits : List ℕ) → take k digits ++ added 0 (drop k digits) ≡ digits
added-done zero digits = added-zero digits
added-done (suc k) [] = refl
added-done (suc k) (digit ∷ higher) = ap (λ (xs : List ℕ). digit ∷ xs) (added-done k higher)

-- where nothing is borrowed they stay too
removed-zero : (digits : List ℕ) → removed 0 digits ≡ digits
removed-zero [] = refl
removed-zero (digit ∷ higher) = rw (xor_zero_r digit, and_zero_l digit) (ap (λ (xs : List ℕ). digit ∷ xs) (removed-zero higher))

pub removed-done : (k : ℕ) (digits : List ℕ) → take k digits ++ removed 0 (drop k digits) ≡ digits
removed-done zero digits = removed-zero digits
removed-done (suc k) [] = refl
removed-done (suc k) (digit ∷ higher) = ap (λ (xs : List ℕ). digit ∷ xs) (removed-done k higher)

-- after the last digit all are done
pub added-last : (carry k : ℕ) (digits : List ℕ) → length digits ≤ k → take k digits ++ added carry (drop k digits) ≡ digits
added-last carry zero [] short = refl
added-last carry zero (digit ∷ higher) short = absurd (omega arith)
added-last carry (suc k) [] short = refl
added-last carry (suc k) (digit ∷ higher) short = ap (λ (xs : List ℕ). digit ∷ xs) (added-last carry k higher (omega arith))

pub removed-last : (borrow k : ℕ) (digits : List ℕ) → length digits ≤ k → take k digits ++ removed borrow (drop k digits) ≡ digits
removed-last borrow zero [] short = refl
removed-last borrow zero (digit ∷ higher) short = absurd (omega arith)
removed-last borrow (suc k) [] short = refl
removed-last borrow (suc k) (digit ∷ higher) short = ap (λ (xs : List ℕ). digit ∷ xs) (removed-last borrow k higher (omega arith))

-- ---- a test that tells whether a count is more than 0

abbrev pub Tells : Bool → ℕ → Type 0
Tells true n = 0 < n
Tells false n = n ≡ 0

-- two such tests of one count agree
pub Tells-same : (a b : Bool) (n : ℕ) → Tells a n → Tells b n → a ≡ b
Tells-same true true n l r = refl
Tells-same true false n l r = absurd (omega arith)
Tells-same false true n l r = absurd (omega arith)
Tells-same false false n l r = refl

Tells-or : (a b : Bool) (m n : ℕ) → Tells a m → Tells b n → Tells (a || b) (m + n)
Tells-or true true m n l r = omega arith
Tells-or true false m n l r = omega arith
Tells-or false true m n l r = omega arith
Tells-or false false m n l r = omega arith

Tells-bit : (digit way : ℕ) → Tells (has_way digit way) (bit_at digit way)
Tells-bit digit way = at (bit_at digit way) (bit_at-lt digit way)
  where
    at : (n : ℕ) → n < 2 → Tells (eqb n 1) n
    at zero small = refl
    at (suc zero) small = omega arith
    at (suc (suc n)) small = absurd (omega arith)

Tells-double : (b : Bool) (n : ℕ) → Tells b n → Tells b (2 * n)
Tells-double true n is = omega arith
Tells-double false n is = omega arith

-- whether some digit has a way tells whether it is counted
pub Tells-digits : (way : ℕ) (digits : List ℕ) → Tells (list_any (λ (digit : ℕ). has_way digit way) digits) (count_of way digits)
Tells-digits way [] = refl
Tells-digits way (digit ∷ higher) =
    Tells-or (has_way digit way) (list_any (λ (x : ℕ). has_way x way) higher) (bit_at digit way) (2 * count_of way higher) (Tells-bit digit way)
    (Tells-double (list_any (λ (x : ℕ). has_way x way) higher) (count_of way higher) (Tells-digits way higher))

-- one thing is counted where it passes
pub zero-plus : (n : ℕ) → n ≡ 0 + n
zero-plus n = omega arith

pub Tells-one : (b rest : Bool) (n : ℕ) → Tells rest n → Tells (b || rest) (cond b 1 0 + n)
Tells-one true rest n is = omega arith
Tells-one false rest n is = subst (Tells rest) (zero-plus n) is
