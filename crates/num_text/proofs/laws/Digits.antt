-- Texts of digits: they have no blanks and no separators, and spell a number.
use Rattle.std.proofs.Common.{◌≡◌, ℕ, zero, suc, ◌-◌, ◌^◌, ◌<◌, Bool, true, false, eqb, ◌||◌, ◌&&◌, List, [], ◌∷◌, ◌++◌, length, get_or, reverse, replicate, Some, refl, sym, ap, ◌∙◌, arith, inl, inr, length-append, lt_of_lt_of_le}
use Rattle.std.specs.List.{list_any, list_all, prefix_len, suffix_len}
use Rattle.std.specs.Char.{digit_value, is_digit}
use Rattle.std.specs.Fmt.{digits, decimal}
use Rattle.std.specs.Str.Parse.{digits_value, digits_value_after, AllDigits, IsNumeral}
use Rattle.std.proofs.lemmas.Bool.{ne_eqb, cases_lt, lt-ltb}
use Rattle.std.proofs.lemmas.Fmt.{digits_is_IsNumeral, decimal_is_IsNumeral}
use Rattle.std.proofs.lemmas.List.{take_all, get_or-reverse, length-reverse}
use Rattle.std.proofs.lemmas.List.Folds.{list_any_at}
use Rattle.std.proofs.lemmas.List.Sums.{prefix_len_passes, prefix_len-le-length}
use Rattle.std.proofs.lemmas.Str.Parse.{digit_from_value}
use Rattle.num_text.specs.Numbers.{number_of, without_prefix, has_prefix}
use Rattle.num_text.specs.Printed.{filled, hexadecimal}
use Rattle.num_text.specs.Blanks.{is_blank, trim}

-- ---- digits are none of the bytes that part a text

-- a byte that is no digit differs from each digit
pub eqb-digit : (c k : ℕ) → digit_value k ≡ 36 → digit_value c < 16 → eqb c k ≡ false
eqb-digit c k none digit = ne_eqb c k (λ e. absurd (omega (arith, ap digit_value e)))

-- so it is no blank
pub is_blank-digit : (c : ℕ) → digit_value c < 16 → is_blank c ≡ false
is_blank-digit c h = rw (eqb-digit c 32 refl h, eqb-digit c 9 refl h) refl

-- a test that no digit passes, none of a text of digits passes
pub list_any-digits : (p : ℕ → Bool) → ((c : ℕ) → digit_value c < 16 → p c ≡ false) → (cs : List ℕ) → AllDigits 16 cs → list_any p cs ≡ false
list_any-digits p h [] all = refl
list_any-digits p h (c ∷ cs) all = rw (h c all.0) (list_any-digits p h cs all.1)

-- decimal digits are hexadecimal ones
pub AllDigits-hexadecimal_digits : (cs : List ℕ) → AllDigits 10 cs → AllDigits 16 cs
AllDigits-hexadecimal_digits [] all = all
AllDigits-hexadecimal_digits (c ∷ cs) all = (omega (arith, all.0), AllDigits-hexadecimal_digits cs all.1)

-- a text of digits, and only that, spells its value
pub number_of-digits : (base : ℕ) (cs : List ℕ) → 0 < length cs → AllDigits base cs → number_of base cs ≡ Some (digits_value base cs)
number_of-digits base [] some all = absurd (omega arith)
number_of-digits base (c ∷ cs) some all = rw (passes (c ∷ cs) all) refl
  where
    passes : (xs : List ℕ) → AllDigits base xs → list_all (λ b. is_digit b base) xs ≡ true
    passes [] h = refl
    passes (x ∷ xs) h = rw (lt-ltb (digit_value x) base h.0) (passes xs h.1)

-- digits do not begin with `0x`
pub has_prefix-digits : (cs : List ℕ) → AllDigits 16 cs → has_prefix cs ≡ false
has_prefix-digits [] all = refl
has_prefix-digits (b ∷ []) all = short (eqb 48 b)
  where
    short : (x : Bool) → ((x && false) || (x && false)) ≡ false
    short true = refl
    short false = refl
has_prefix-digits (b ∷ c ∷ cs) all = rw (ne_eqb 120 c (λ e. absurd (omega (arith, ap digit_value e, all.1.0))), ne_eqb 88 c (λ e. absurd (omega (arith, ap digit_value e, all.1.0)))) (long (eqb 48 b))
  where
    long : (x : Bool) → ((x && false) || (x && false)) ≡ false
    long true = refl
    long false = refl

-- and reads the same without one
pub without_prefix-digits : (cs : List ℕ) → AllDigits 16 cs → without_prefix cs ≡ cs
without_prefix-digits cs all = rw (has_prefix-digits cs all) refl

-- ---- the digits of a printed number

-- a number in decimal
pub AllDigits-decimal : (n : ℕ) → n < 2 ^ 64 → AllDigits 10 (decimal n)
AllDigits-decimal n small = (decimal_is_IsNumeral n small).0.1

-- zeros on the left are digits
pub AllDigits-filled : (base : ℕ) (zeros : ℕ) (cs : List ℕ) → 0 < base → AllDigits base cs → AllDigits base (replicate zeros 48 ++ cs)
AllDigits-filled base zero cs pos all = all
AllDigits-filled base (suc zeros) cs pos all = (pos, AllDigits-filled base zeros cs pos all)

-- and do not change the value
pub digits_value-filled : (base : ℕ) (zeros : ℕ) (cs : List ℕ) → digits_value base (replicate zeros 48 ++ cs) ≡ digits_value base cs
digits_value-filled base zero cs = refl
digits_value-filled base (suc zeros) cs = ap (λ (n : ℕ). digits_value_after base n (replicate zeros 48 ++ cs)) (omega arith) ∙ digits_value-filled base zeros cs

-- a number in hexadecimal
IsNumeral-hexadecimal : (n : ℕ) → n < 2 ^ 64 → IsNumeral 16 (digits 16 false n) × (digits_value 16 (digits 16 false n) ≡ n)
IsNumeral-hexadecimal n small = digits_is_IsNumeral 16 false (omega arith) (omega arith) n (lt_of_lt_of_le small (omega arith))

-- it has hexadecimal digits alone
pub AllDigits-hexadecimal : (width n : ℕ) → n < 2 ^ 64 → AllDigits 16 (hexadecimal width n)
unfolding filled
AllDigits-hexadecimal width n small = AllDigits-filled 16 (width - length (digits 16 false n)) (digits 16 false n) (omega arith) (IsNumeral-hexadecimal n small).0.1

-- spells the number
pub digits_value-hexadecimal : (width n : ℕ) → n < 2 ^ 64 → digits_value 16 (hexadecimal width n) ≡ n
unfolding filled
digits_value-hexadecimal width n small = digits_value-filled 16 (width - length (digits 16 false n)) (digits 16 false n) ∙ (IsNumeral-hexadecimal n small).1

-- and has some digit
pub length-hexadecimal_some : (width n : ℕ) → n < 2 ^ 64 → 0 < length (hexadecimal width n)
unfolding filled
length-hexadecimal_some width n small = omega (arith, length-append (replicate (width - length (digits 16 false n)) 48) (digits 16 false n), (IsNumeral-hexadecimal n small).0.0)

-- ---- a text without blanks is trimmed

-- no element of a list where none passes does
list_any-none_at : (p : ℕ → Bool) (xs : List ℕ) (i d : ℕ) → list_any p xs ≡ false → i < length xs → p (get_or xs i d) ≡ true → ⊥
list_any-none_at p xs i d h lt e = let yes_any = list_any_at p xs i d lt e in absurd cc

-- it begins with none
prefix_len-none : (p : ℕ → Bool) (xs : List ℕ) → list_any p xs ≡ false → prefix_len p xs ≡ 0
prefix_len-none p xs h = elim (cases_lt 0 (prefix_len p xs)) [
  | inl lt ↦ absurd (list_any-none_at p xs 0 0 h (omega (arith, prefix_len-le-length p xs)) (prefix_len_passes p xs 0 0 lt))
  | inr le ↦ omega arith
]

-- it ends with none
suffix_len-none : (p : ℕ → Bool) (xs : List ℕ) → list_any p xs ≡ false → suffix_len p xs ≡ 0
suffix_len-none p xs h = elim (cases_lt 0 (suffix_len p xs)) [
  | inl lt ↦ (let some : 0 < length xs = omega (arith, prefix_len-le-length p (reverse xs), length-reverse xs) in
      let passes = prefix_len_passes p (reverse xs) 0 0 lt in
      absurd (list_any-none_at p xs (length xs - 1 - 0) 0 h (omega arith) (ap p (sym (get_or-reverse xs 0 0 some)) ∙ passes)))
  | inr le ↦ omega arith
]

-- so nothing is taken off
pub trim-none : (xs : List ℕ) → list_any is_blank xs ≡ false → trim xs ≡ xs
trim-none xs h = rw (prefix_len-none is_blank xs h, suffix_len-none is_blank xs h) (take_all (length xs - 0) xs (omega arith))

-- ---- decimal digits

-- no decimal digit is a byte below them
pub eqb-decimal : (c k : ℕ) → k < 48 → digit_value c < 10 → eqb c k ≡ false
eqb-decimal c k low digit = ne_eqb c k (λ e. omega (arith, e, low, (digit_from_value c digit).0))

-- none is a blank
pub is_blank-decimal : (c : ℕ) → digit_value c < 10 → is_blank c ≡ false
is_blank-decimal c digit = rw (eqb-decimal c 32 (omega arith) digit, eqb-decimal c 9 (omega arith) digit) refl

-- a test that no decimal digit passes, none of a text of decimal digits passes
pub list_any-decimal : (p : ℕ → Bool) → ((c : ℕ) → digit_value c < 10 → p c ≡ false) → (cs : List ℕ) → AllDigits 10 cs → list_any p cs ≡ false
list_any-decimal p h [] all = refl
list_any-decimal p h (c ∷ cs) all = rw (h c all.0) (list_any-decimal p h cs all.1)
