-- A number that is read digit by digit.
use Rattle.std.proofs.Common.{◌≡◌, ℕ, ◌+◌, ◌-◌, ◌*◌, ◌<◌, ◌≤◌, ◌^◌, ◌++◌, List, [], ◌∷◌, length, get_or, take, drop, refl, sym, ap, ◌∙◌, arith, append_assoc, length-append}
use Rattle.std.specs.Char.{digit_value}
use Rattle.std.specs.Str.Parse.{digits_value, AllDigits}
use Rattle.std.proofs.lemmas.List.{take_all}
use Rattle.std.proofs.lemmas.Int.Digits.{digits_value_push, digits_push}

-- A text begins with one decimal digit or more that spell this number, and this is left after them.
pub record SpellsSoFar (text : List ℕ) (n : ℕ) (left : List ℕ) : Type 0 where
  pub word : List ℕ
  pub parts : text ≡ word ++ left
  pub some : 0 < length word
  pub digits : AllDigits 10 word
  pub value : n ≡ digits_value 10 word
  pub fits : n < 2 ^ 64

-- the first digit
pub SpellsSoFar-first : (text : List ℕ) (n : ℕ) → 1 ≤ length text → n ≡ digit_value (get_or text 0 0) → n < 10 → SpellsSoFar text n (take (length text - 1) (drop 1 text))
SpellsSoFar-first [] n some is digit = absurd (omega arith)
SpellsSoFar-first (b ∷ rest) n some is digit =
    let none : digits_value 10 [] ≡ 0 = refl in
    let pushed : digits_value 10 (b ∷ []) ≡ digits_value 10 [] * 10 + digit_value b = digits_value_push 10 [] b in
    rw (take_all (length (b ∷ rest) - 1) rest (omega arith)) (record { word = b ∷ []; parts = refl; some = omega arith; digits = (rw (← is) digit, tt); value = omega (arith, is, none, pushed); fits = omega (arith, digit) })

-- one digit more
SpellsSoFar-digit : (text : List ℕ) (n b : ℕ) (rest : List ℕ) (m : ℕ) → SpellsSoFar text n (b ∷ rest) → digit_value b < 10 → m ≡ n * 10 + digit_value b → m < 2 ^ 64 → SpellsSoFar text m rest
SpellsSoFar-digit text n b rest m h digit more small = record {
  word = h.word ++ b ∷ [];
  parts = h.parts ∙ sym (append_assoc h.word (b ∷ []) rest);
  some = omega (arith, length-append h.word (b ∷ []));
  digits = digits_push 10 h.word b h.digits digit;
  value = more ∙ ap (λ (k : ℕ). k * 10 + digit_value b) h.value ∙ sym (digits_value_push 10 h.word b);
  fits = small;
}

-- the same of the bytes that are left
pub SpellsSoFar-next : (text : List ℕ) (n : ℕ) (left : List ℕ) (m : ℕ) → SpellsSoFar text n left → 1 ≤ length left → digit_value (get_or left 0 0) < 10 → m ≡ n * 10 + digit_value (get_or left 0 0) → m < 2 ^ 64
    → SpellsSoFar text m (take (length left - 1) (drop 1 left))
SpellsSoFar-next text n [] m h some digit more small = absurd (omega arith)
SpellsSoFar-next text n (b ∷ rest) m h some digit more small =
    rw (take_all (length (b ∷ rest) - 1) rest (omega arith)) (SpellsSoFar-digit text n b rest m h digit more small)
