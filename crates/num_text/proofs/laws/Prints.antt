-- A number printed digit by digit, and read back.
use Rattle.std.proofs.Common.{◌≡◌, ℕ, zero, suc, ◌+◌, ◌-◌, ◌*◌, ◌/◌, ◌%◌, ◌^◌, ◌<◌, ◌≤◌, Bool, false, cond, List, [], ◌∷◌, ◌++◌, length, replicate, Some, refl, sym, ap, subst, ◌∙◌, arith, inl, inr, length-append, append_assoc, lt_of_lt_of_le, lt_of_le_of_lt}
use Rattle.std.proofs.Math.Nat.{div-lt_iff_lt-mul, div-eq_of_lt, div-le_self, mod-eq_of_lt, one-le-pow, pow-le-pow_left, pow-suc, pow-zero}
use Rattle.std.specs.Fmt.{digits, digits_onto, digit_glyph, decimal}
use Rattle.std.proofs.lemmas.Bool.{ne_eqb, eq-eqb, cases_lt}
use Rattle.std.proofs.lemmas.Fmt.{decimal_is_IsNumeral, length-decimal-le, decimal_digit}
use Rattle.std.proofs.lemmas.Grind.{replicate_next}
use Rattle.num_text.specs.Numbers.{number_of}
use Rattle.num_text.specs.Printed.{filled, hexadecimal, DecimalReadsBack, HexadecimalReadsBack}
use Rattle.num_text.proofs.laws.Digits.{number_of-digits, without_prefix-digits, AllDigits-hexadecimal, digits_value-hexadecimal, length-hexadecimal_some}

-- ---- the digits of a number are those of its front, and its last

-- the last digit
abbrev last_glyph : ℕ → ℕ → ℕ
last_glyph base n = digit_glyph false (n % base)

-- a number of one digit
digits_onto-last : (base k n : ℕ) (acc : List ℕ) → n / base ≡ 0 → digits_onto (suc k) base false n acc ≡ last_glyph base n ∷ acc
digits_onto-last base k n acc h = ap (λ (t : Bool). cond t (last_glyph base n ∷ acc) (digits_onto k base false (n / base) (last_glyph base n ∷ acc))) (eq-eqb (n / base) 0 h)

-- a number of more digits
digits_onto-more : (base k n : ℕ) (acc : List ℕ) → 0 < n / base → digits_onto (suc k) base false n acc ≡ digits_onto k base false (n / base) (last_glyph base n ∷ acc)
digits_onto-more base k n acc h = ap (λ (t : Bool). cond t (last_glyph base n ∷ acc) (digits_onto k base false (n / base) (last_glyph base n ∷ acc))) (ne_eqb (n / base) 0 (λ e. omega arith))

-- the digits stand before those that follow
digits_onto-append : (base k n : ℕ) (acc : List ℕ) → digits_onto k base false n acc ≡ digits_onto k base false n [] ++ acc
digits_onto-append base zero n acc = refl
digits_onto-append base (suc k) n acc = elim (cases_lt 0 (n / base)) [
  | inl some ↦ digits_onto-more base k n acc some ∙ digits_onto-append base k (n / base) (last_glyph base n ∷ acc) ∙ sym (append_assoc (digits_onto k base false (n / base) []) (last_glyph base n ∷ []) acc) ∙ ap (λ (x : List ℕ). x ++ acc) (sym (digits_onto-more base k n [] some ∙ digits_onto-append base k (n / base) (last_glyph base n ∷ [])))
  | inr none ↦ digits_onto-last base k n acc (omega arith) ∙ ap (λ (x : List ℕ). x ++ acc) (sym (digits_onto-last base k n [] (omega arith)))
]

-- one more turn than a number has digits changes nothing
digits_onto-suc : (base k n : ℕ) (acc : List ℕ) → 0 < base → n < base ^ suc k → digits_onto (suc (suc k)) base false n acc ≡ digits_onto (suc k) base false n acc
digits_onto-suc base zero n acc pos h =
    let one : base ^ 0 ≡ 1 = pow-zero base in
    let first : base ^ 1 ≡ base = pow-suc base 0 ∙ ap (λ (p : ℕ). p * base) one ∙ omega arith in
    let none : n / base ≡ 0 = div-eq_of_lt (subst (λ (p : ℕ). n < p) first h) in
    digits_onto-last base 1 n acc none ∙ sym (digits_onto-last base 0 n acc none)
digits_onto-suc base (suc k) n acc pos h = elim (cases_lt 0 (n / base)) [
  | inl some ↦ digits_onto-more base (suc (suc k)) n acc some ∙ digits_onto-suc base k (n / base) (last_glyph base n ∷ acc) pos ((div-lt_iff_lt-mul pos).1 (rw (← pow-suc base (suc k)) h)) ∙ sym (digits_onto-more base (suc k) n acc some)
  | inr none ↦ digits_onto-last base (suc (suc k)) n acc (omega arith) ∙ sym (digits_onto-last base (suc k) n acc (omega arith))
]

-- 64 digits of any base hold a number of 64 bits
lt-pow_digits : (base n : ℕ) → 2 ≤ base → n < 2 ^ 64 → n < base ^ 64
lt-pow_digits base n low small = lt_of_lt_of_le small (pow-le-pow_left low 64)

-- the digits of the front, and the last
digits-more : (base n : ℕ) → 2 ≤ base → base ≤ n → n < 2 ^ 64 → digits base false n ≡ digits base false (n / base) ++ last_glyph base n ∷ []
unfolding digits
digits-more base n low h small =
    let pos : 0 < base = omega arith in
    let some : 0 < n / base = some_front pos in
    let front : n / base < base ^ 63 = (div-lt_iff_lt-mul pos).1 (rw (← pow-suc base 63) (lt-pow_digits base n low small)) in
    digits_onto-more base 63 n [] some ∙ sym (digits_onto-suc base 62 (n / base) (last_glyph base n ∷ []) pos front) ∙ digits_onto-append base 64 (n / base) (last_glyph base n ∷ [])
  where
    some_front : 0 < base → 0 < n / base
    some_front pos = elim (cases_lt 0 (n / base)) [
      | inl some ↦ some
      | inr none ↦ (let lt : n < 1 * base = (div-lt_iff_lt-mul {k = base} {x = n} {y = 1} pos).0 (omega arith) in absurd (omega arith))
    ]

-- one digit
digits-one : (base n : ℕ) → 2 ≤ base → n < base → digits base false n ≡ digit_glyph false n ∷ []
unfolding digits
digits-one base n low h = digits_onto-last base 63 n [] (div-eq_of_lt h) ∙ ap (λ (d : ℕ). digit_glyph false d ∷ []) (mod-eq_of_lt h)

-- ---- the same with zeros on the left

-- one digit that is wide enough
pub filled-last : (base width n : ℕ) → 2 ≤ base → n < base → width ≤ 1 → filled base width n ≡ digit_glyph false n ∷ []
unfolding filled
filled-last base width n low h narrow =
    rw (digits-one base n low h) (rw (none width narrow) refl)
  where
    none : (w : ℕ) → w ≤ 1 → w - 1 ≡ 0
    none w h = omega arith

-- a digit more of the number
pub filled-more : (base width n : ℕ) → 2 ≤ base → base ≤ n → n < 2 ^ 64 → filled base width n ≡ filled base (width - 1) (n / base) ++ digit_glyph false (n % base) ∷ []
unfolding filled
filled-more base width n low h small =
    let front = digits base false (n / base) in
    let last = last_glyph base n ∷ [] in
    let same : width - length (front ++ last) ≡ width - 1 - length front = omega (arith, length-append front last) in
    rw (digits-more base n low h small, same) (sym (append_assoc (replicate (width - 1 - length front) 48) front last))

-- a zero more
pub filled-zero : (base width n : ℕ) → 2 ≤ base → n < base → 1 < width → filled base width n ≡ filled base (width - 1) 0 ++ digit_glyph false n ∷ []
unfolding filled
filled-zero base width n low h wide =
    let zero_glyph : digits base false 0 ≡ 48 ∷ [] = digits-one base 0 low (omega arith) in
    rw (digits-one base n low h, zero_glyph) (ap (λ (zeros : List ℕ). zeros ++ digit_glyph false n ∷ []) fill)
  where
    fill : replicate {A = ℕ} (width - 1) 48 ≡ replicate (width - 1 - 1) 48 ++ 48 ∷ []
    fill = let e : width - 1 ≡ width - 1 - 1 + 1 = omega arith in ap (λ (k : ℕ). replicate {A = ℕ} k 48) e ∙ replicate_next (width - 1 - 1) 48

-- how long these texts are
pub length-filled_last : (base width n : ℕ) → 2 ≤ base → n < base → width ≤ 1 → length (filled base width n) ≡ 1
length-filled_last base width n low h narrow = ap length (filled-last base width n low h narrow)

-- with a digit more of the number
pub length-filled_more : (base width n : ℕ) → 2 ≤ base → base ≤ n → n < 2 ^ 64 → length (filled base width n) ≡ length (filled base (width - 1) (n / base)) + 1
length-filled_more base width n low h small = ap length (filled-more base width n low h small) ∙ length-append (filled base (width - 1) (n / base)) (last_glyph base n ∷ [])

-- with a zero more
pub length-filled_zero : (base width n : ℕ) → 2 ≤ base → n < base → 1 < width → length (filled base width n) ≡ length (filled base (width - 1) 0) + 1
length-filled_zero base width n low h wide = ap length (filled-zero base width n low h wide) ∙ length-append (filled base (width - 1) 0) (digit_glyph false n ∷ [])

-- a number of at most k digits, filled to at most k
pub length-filled : (base k width n : ℕ) → 2 ≤ base → n < base ^ suc k → n < 2 ^ 64 → width ≤ suc k → length (filled base width n) ≤ suc k
length-filled base zero width n low few small narrow =
    let one : base ^ 0 ≡ 1 = pow-zero base in
    let first : base ^ 1 ≡ base = pow-suc base 0 ∙ ap (λ (p : ℕ). p * base) one ∙ omega arith in
    omega (arith, length-filled_last base width n low (subst (λ (p : ℕ). n < p) first few) narrow)
length-filled base (suc k) width n low few small narrow = elim (cases_lt n base) [
  | inl lt ↦ elim (cases_lt 1 width) [
    | inl wide ↦ omega (arith, length-filled_zero base width n low lt wide, length-filled base k (width - 1) 0 low (one-le-pow (suc k) base (omega arith)) (omega arith) (omega arith))
    | inr le ↦ omega (arith, length-filled_last base width n low lt le)
  ]
  | inr le ↦ (let pos : 0 < base = omega arith in
      omega (arith, length-filled_more base width n low le small, length-filled base k (width - 1) (n / base) low ((div-lt_iff_lt-mul pos).1 (rw (← pow-suc base (suc k)) few)) (lt_of_le_of_lt (div-le_self n base) small) (omega arith)))
]

-- ---- printed numbers are read back

-- in decimal
pub decimal_reads_back : DecimalReadsBack
decimal_reads_back n small =
    let d = decimal_is_IsNumeral n small in
    number_of-digits 10 (decimal n) d.0.0 d.0.1 ∙ ap Some d.1

-- in hexadecimal
pub hexadecimal_reads_back : HexadecimalReadsBack
hexadecimal_reads_back width n small =
    let all = AllDigits-hexadecimal width n small in
    ap (number_of 16) (without_prefix-digits (hexadecimal width n) all) ∙ number_of-digits 16 (hexadecimal width n) (length-hexadecimal_some width n small) all ∙ ap Some (digits_value-hexadecimal width n small)

-- ---- room

-- a number of 64 bits has at most 16 hexadecimal digits
pub length-hexadecimal : (width n : ℕ) → n < 2 ^ 64 → width ≤ 16 → length (hexadecimal width n) ≤ 16
length-hexadecimal width n small narrow = length-filled 16 15 width n (omega arith) small small narrow

-- a number of 8 bits has at most three decimal digits
pub length-decimal_byte : (n : ℕ) → n < 2 ^ 8 → length (decimal n) ≤ 3
length-decimal_byte n small = length-decimal-le 3 n (omega arith) (omega arith) (omega arith)

-- with no width there are no zeros on the left
pub filled-no_width : (base n : ℕ) → filled base 0 n ≡ digits base false n
unfolding filled
filled-no_width base n = ap (λ (k : ℕ). replicate {A = ℕ} k 48 ++ digits base false n) (none (length (digits base false n)))
  where
    none : (k : ℕ) → 0 - k ≡ 0
    none k = omega arith

-- a number of 64 bits has at most 20
pub length-decimal : (n : ℕ) → n < 2 ^ 64 → length (decimal n) ≤ 20
length-decimal n small = length-decimal-le 20 n (omega arith) (omega arith) small

-- a number below ten has one
pub length-decimal_digit : (n : ℕ) → n < 10 → length (decimal n) ≡ 1
length-decimal_digit n few = ap length (decimal_digit n few)
