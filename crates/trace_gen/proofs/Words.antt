-- Words with one space between, and the lines of a text. These belong beside the words of `line_words`.
use Rattle.std.proofs.Common.{◌≡◌, ℕ, ◌-◌, ◌^◌, ◌<◌, Bool, false, eqb, List, [], ◌∷◌, ◌++◌, length, filter, refl, ap, ◌∙◌, arith, append_assoc}
use Rattle.std.specs.Prelude.{decimal}
use Rattle.std.specs.Char.{digit_value}
use Rattle.std.specs.List.{AllByRecursion, list_any, slice_split}
use Rattle.std.specs.Str.Lines.{lines, lines_of_parts}
use Rattle.std.proofs.lemmas.Bool.{ne_eqb, le-ltb}
use Rattle.std.proofs.lemmas.Fmt.{decimal_nonempty}
use Rattle.std.proofs.lemmas.List.Splits.{length-slice_split}
use Rattle.std.proofs.lemmas.Str.Parse.{digit_from_value}
use Rattle.lists.proofs.Cuts.{slice_split-some, lines_of_parts-cons, strip_carriage_return-none}
use Rattle.num_text.specs.Blanks.{is_blank}
use Rattle.num_text.proofs.laws.Digits.{AllDigits-decimal, is_blank-decimal, eqb-decimal, list_any-decimal}
use Rattle.num_text.proofs.laws.Pieces.{Cut-append, list_any-join_with_byte, slice_split-join_with_byte}
use Rattle.line_words.specs.Lines.{is_bad, is_some_word, words}
use Rattle.trace_gen.specs.Trace.{spaced, text_of}
use Rattle.lists.proofs.Recursions.{AllByRecursion-map}

-- the bytes that end a line, or stand before one that does
abbrev pub is_newline : ℕ → Bool
is_newline b = eqb b 10

abbrev pub is_carriage_return : ℕ → Bool
is_carriage_return b = eqb b 13

-- ---- words

-- a word of a line
pub record IsWord (word : List ℕ) : Type 0 where
  pub some : 0 < length word
  pub unbroken : list_any is_blank word ≡ false
  pub good : list_any is_bad word ≡ false
  pub no_newline : list_any is_newline word ≡ false
  pub no_return : list_any is_carriage_return word ≡ false

-- none is a bad byte
is_bad-decimal : (c : ℕ) → digit_value c < 10 → is_bad c ≡ false
is_bad-decimal c digit =
    let range = digit_from_value c digit in
    rw (le-ltb c 32 (omega (arith, range.0)), le-ltb 126 c (omega (arith, range.1))) refl

-- a number in decimal is a word
pub IsWord-decimal : (n : ℕ) → n < 2 ^ 64 → IsWord (decimal n)
IsWord-decimal n small =
    let all = AllDigits-decimal n small in
    record {
      some = decimal_nonempty n small;
      unbroken = list_any-decimal is_blank is_blank-decimal (decimal n) all;
      good = list_any-decimal is_bad is_bad-decimal (decimal n) all;
      no_newline = list_any-decimal is_newline (λ c digit. eqb-decimal c 10 (omega arith) digit) (decimal n) all;
      no_return = list_any-decimal is_carriage_return (λ c digit. eqb-decimal c 13 (omega arith) digit) (decimal n) all;
    }

-- a filter keeps words
filter-words : (ws : List (List ℕ)) → AllByRecursion IsWord ws → filter is_some_word ws ≡ ws
filter-words [] all = refl
filter-words (w ∷ ws) all = rw (ne_eqb (length w) 0 (λ e. omega (arith, e, all.0.some))) (ap (λ (rest : List (List ℕ)). w ∷ rest) (filter-words ws all.1))

-- the words of a line
pub words-spaced : (w : List ℕ) (ws : List (List ℕ)) → AllByRecursion IsWord (w ∷ ws) → words (spaced (w ∷ ws)) ≡ w ∷ ws
words-spaced w ws all =
    ap (filter is_some_word) (slice_split-join_with_byte is_blank 32 refl (w ∷ ws) (omega arith) (AllByRecursion-map IsWord (λ x. list_any is_blank x ≡ false) (λ x h. h.unbroken) (w ∷ ws) all))
    ∙ filter-words (w ∷ ws) all

-- a line of words has no bad byte
pub good-spaced : (ws : List (List ℕ)) → AllByRecursion IsWord ws → list_any is_bad (spaced ws) ≡ false
good-spaced ws all = list_any-join_with_byte is_bad 32 refl ws (AllByRecursion-map IsWord (λ x. list_any is_bad x ≡ false) (λ x h. h.good) ws all)

-- ---- lines

-- a line of a text
pub record IsPlain (line : List ℕ) : Type 0 where
  pub some : 0 < length line
  pub no_newline : list_any is_newline line ≡ false
  pub no_return : list_any is_carriage_return line ≡ false

-- a line of words is plain, where its first has a byte
pub IsPlain-spaced : (b : ℕ) (w : List ℕ) (ws : List (List ℕ)) → AllByRecursion IsWord ((b ∷ w) ∷ ws) → IsPlain (spaced ((b ∷ w) ∷ ws))
IsPlain-spaced b w ws all = record {
  some = some ws;
  no_newline = list_any-join_with_byte is_newline 32 refl ((b ∷ w) ∷ ws) (AllByRecursion-map IsWord (λ x. list_any is_newline x ≡ false) (λ x h. h.no_newline) ((b ∷ w) ∷ ws) all);
  no_return = list_any-join_with_byte is_carriage_return 32 refl ((b ∷ w) ∷ ws) (AllByRecursion-map IsWord (λ x. list_any is_carriage_return x ≡ false) (λ x h. h.no_return) ((b ∷ w) ∷ ws) all);
}
  where
    some : (vs : List (List ℕ)) → 0 < length (spaced ((b ∷ w) ∷ vs))
    some [] = omega arith
    some (v ∷ vs) = omega arith

-- a line and its newline
lines-cons : (x rest : List ℕ) → IsPlain x → lines (x ++ 10 ∷ rest) ≡ x ∷ lines rest
lines-cons x rest plain =
    let cut = Cut-append is_newline x 10 rest plain.no_newline refl in
    let parts : slice_split is_newline (x ++ 10 ∷ rest) ≡ x ∷ slice_split is_newline rest = slice_split-some is_newline (x ++ 10 ∷ rest) cut.any ∙ rw (cut.before, cut.behind) refl in
    ap lines_of_parts parts
    ∙ lines_of_parts-cons x (slice_split is_newline rest) (omega (arith, length-slice_split is_newline rest))
    ∙ ap (λ (y : List ℕ). y ∷ lines rest) (strip_carriage_return-none x plain.some plain.no_return)

-- the lines of a text of plain lines
pub lines-text_of : (ls : List (List ℕ)) → AllByRecursion IsPlain ls → lines (text_of ls) ≡ ls
lines-text_of [] all = refl
lines-text_of (l ∷ ls) all =
    ap lines (append_assoc l (10 ∷ []) (text_of ls))
    ∙ lines-cons l (text_of ls) all.0
    ∙ ap (λ (rest : List (List ℕ)). l ∷ rest) (lines-text_of ls all.1)
