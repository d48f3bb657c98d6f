-- What the code asks of a number that is printed in hexadecimal, two digits at a time: its front is smaller, and there is room for it.
use Rattle.std.proofs.Common.{◌≡◌, ℕ, ◌+◌, ◌-◌, ◌/◌, ◌%◌, ◌^◌, ◌<◌, ◌≤◌, false, inl, inr, List, [], ◌∷◌, ◌++◌, length, ap, ◌∙◌, arith, append_assoc, length-append}
use Rattle.std.specs.Fmt.{digit_glyph}
use Rattle.std.proofs.Math.Nat.{div-lt_self}
use Rattle.std.proofs.lemmas.Bool.{cases_lt}
use Rattle.num_text.proofs.laws.Prints.{filled-last, filled-more, filled-zero, length-decimal, length-hexadecimal}
use Rattle.num_text.specs.Printed.{hexadecimal}

-- the two digits of a number below 256
abbrev pub pair_glyphs : ℕ → List ℕ
pair_glyphs n = digit_glyph false (n / 16) ∷ digit_glyph false (n % 16) ∷ []

-- one digit after another
one_by_one : (front : List ℕ) (tens ones n : ℕ) → tens ≡ n / 16 → ones ≡ n % 16 → (front ++ digit_glyph false tens ∷ []) ++ digit_glyph false ones ∷ [] ≡ front ++ pair_glyphs n
one_by_one front tens ones n high low =
    append_assoc front (digit_glyph false tens ∷ []) (digit_glyph false ones ∷ [])
    ∙ ap (λ m. front ++ digit_glyph false m ∷ digit_glyph false ones ∷ []) high
    ∙ ap (λ m. front ++ digit_glyph false (n / 16) ∷ digit_glyph false m ∷ []) low

-- two digits more of the number
pub hexadecimal-pairs : (width n : ℕ) → 256 ≤ n → n < 2 ^ 64 → hexadecimal width n ≡ hexadecimal (width - 2) (n / 256) ++ pair_glyphs (n % 256)
hexadecimal-pairs width n more small =
    let narrow : width - 1 - 1 ≡ width - 2 = omega arith in
    let front : n / 16 / 16 ≡ n / 256 = omega arith in
    filled-more 16 width n (omega arith) (omega arith) small
    ∙ ap (λ (ds : List ℕ). ds ++ digit_glyph false (n % 16) ∷ []) (filled-more 16 (width - 1) (n / 16) (omega arith) (omega arith) (omega arith))
    ∙ one_by_one (hexadecimal (width - 1 - 1) (n / 16 / 16)) (n / 16 % 16) (n % 16) (n % 256) (omega arith) (omega arith)
    ∙ ap (λ w. hexadecimal w (n / 16 / 16) ++ pair_glyphs (n % 256)) narrow
    ∙ ap (λ m. hexadecimal (width - 2) m ++ pair_glyphs (n % 256)) front

-- a number of one or two digits after zeros
pub hexadecimal-zeros : (width n : ℕ) → n < 256 → 2 < width → hexadecimal width n ≡ hexadecimal (width - 2) 0 ++ pair_glyphs n
hexadecimal-zeros width n few wide =
    let narrow : width - 1 - 1 ≡ width - 2 = omega arith in
    elim (cases_lt n 16) [
      | inl one ↦
          filled-zero 16 width n (omega arith) one (omega arith)
          ∙ ap (λ (ds : List ℕ). ds ++ digit_glyph false n ∷ []) (filled-zero 16 (width - 1) 0 (omega arith) (omega arith) (omega arith))
          ∙ one_by_one (hexadecimal (width - 1 - 1) 0) 0 n n (omega arith) (omega arith)
          ∙ ap (λ w. hexadecimal w 0 ++ pair_glyphs n) narrow
      | inr two ↦
          filled-more 16 width n (omega arith) two (omega arith)
          ∙ ap (λ (ds : List ℕ). ds ++ digit_glyph false (n % 16) ∷ []) (filled-zero 16 (width - 1) (n / 16) (omega arith) (omega arith) (omega arith))
          ∙ one_by_one (hexadecimal (width - 1 - 1) 0) (n / 16) (n % 16) n (omega arith) (omega arith)
          ∙ ap (λ w. hexadecimal w 0 ++ pair_glyphs n) narrow
    ]

-- two digits alone
pub hexadecimal-two : (width n : ℕ) → 16 ≤ n → n < 256 → width ≤ 2 → hexadecimal width n ≡ pair_glyphs n
hexadecimal-two width n two few narrow =
    filled-more 16 width n (omega arith) two (omega arith)
    ∙ ap (λ (ds : List ℕ). ds ++ digit_glyph false (n % 16) ∷ []) (filled-last 16 (width - 1) (n / 16) (omega arith) (omega arith) (omega arith))

-- one digit, and a zero before it
pub hexadecimal-wide : (width n : ℕ) → n < 16 → 1 < width → width ≤ 2 → hexadecimal width n ≡ pair_glyphs n
hexadecimal-wide width n one wide narrow =
    filled-zero 16 width n (omega arith) one wide
    ∙ ap (λ (ds : List ℕ). ds ++ digit_glyph false n ∷ []) (filled-last 16 (width - 1) 0 (omega arith) (omega arith) (omega arith))
    ∙ one_by_one [] 0 n n (omega arith) (omega arith)

-- how long these texts are
pub length-hexadecimal_pairs : (width n : ℕ) → 256 ≤ n → n < 2 ^ 64 → length (hexadecimal width n) ≡ length (hexadecimal (width - 2) (n / 256)) + 2
length-hexadecimal_pairs width n more small = ap length (hexadecimal-pairs width n more small) ∙ length-append (hexadecimal (width - 2) (n / 256)) (pair_glyphs (n % 256))

pub length-hexadecimal_zeros : (width n : ℕ) → n < 256 → 2 < width → length (hexadecimal width n) ≡ length (hexadecimal (width - 2) 0) + 2
length-hexadecimal_zeros width n few wide = ap length (hexadecimal-zeros width n few wide) ∙ length-append (hexadecimal (width - 2) 0) (pair_glyphs n)

pub length-hexadecimal_two : (width n : ℕ) → 16 ≤ n → n < 256 → width ≤ 2 → length (hexadecimal width n) ≡ 2
length-hexadecimal_two width n two few narrow = ap length (hexadecimal-two width n two few narrow)

pub length-hexadecimal_wide : (width n : ℕ) → n < 16 → 1 < width → width ≤ 2 → length (hexadecimal width n) ≡ 2
length-hexadecimal_wide width n one wide narrow = ap length (hexadecimal-wide width n one wide narrow)

-- its front is a smaller number
pub div-lt_number : (n : ℕ) → 256 ≤ n → n / 256 < n
div-lt_number n h = div-lt_self (omega arith) (omega arith)

-- room for a number of 64 bits in hexadecimal
pub ruleset hexadecimal_printed = (length-hexadecimal)

-- room for a number of 64 bits in decimal
pub ruleset decimal_printed = (length-decimal)
