-- The whole lines of a text.
use Rattle.std.proofs.Common.{◌≡◌, ℕ, suc, ◌+◌, ◌-◌, ◌<◌, ◌≤◌, ◌==◌, Bool, true, false, List, [], ◌∷◌, ◌++◌, length, take, get_or, refl, sym, ap, ◌∙◌, arith, inl, inr, length-append, append_assoc}
use Rattle.std.specs.List.{All, after_first, before_first, list_any, position_or_len, slice_split}
use Rattle.std.proofs.lemmas.Bool.{cases_lt, eqb-true}
use Rattle.std.proofs.lemmas.List.Elements.{All-head, All-tail}
use Rattle.std.proofs.lemmas.List.Sums.{passes_at_first, split_at_first}
use Rattle.std.proofs.lemmas.List.Splits.{length-slice_split}
use Rattle.lists.proofs.Cuts.{list_any-position_ge, slice_split-none, slice_split-some}
use Rattle.num_text.proofs.laws.Pieces.{Cut-append}
use Rattle.journal_text.specs.Lines.{text_of}
use Rattle.journal_text.proofs.laws.Newlines.{HasNoNewline}
use Rattle.journal_text.proofs.laws.Texts.{text_of-append, text_of-one}
use Rattle.journal_text.specs.Readings.{whole_lines}

-- whether a byte is a newline
abbrev pub newline : ℕ → Bool
newline b = b == 10

-- all but the last of one more part
take-front : (x : List ℕ) (parts : List (List ℕ)) → 0 < length parts → take (length (x ∷ parts) - 1) (x ∷ parts) ≡ x ∷ take (length parts - 1) parts
take-front x [] some = absurd (omega arith)
take-front x (y ∷ parts) some = let e : length (x ∷ y ∷ parts) - 1 ≡ suc (length (y ∷ parts) - 1) = omega arith in rw e refl

-- a text without a newline has no whole line
pub whole_lines-none : (text : List ℕ) → list_any newline text ≡ false → whole_lines text ≡ []
unfolding whole_lines
whole_lines-none text none = rw (slice_split-none newline text none) refl

-- another has what stands before its first newline, and the lines after that
pub whole_lines-some : (text : List ℕ) → list_any newline text ≡ true → whole_lines text ≡ before_first newline text ∷ whole_lines (after_first newline text)
unfolding whole_lines
whole_lines-some text any =
    ap (λ (parts : List (List ℕ)). take (length parts - 1) parts) (slice_split-some newline text any)
    ∙ take-front (before_first newline text) (slice_split newline (after_first newline text)) (omega (arith, length-slice_split newline (after_first newline text)))

-- a text with a newline is what stands before it, the newline, and what stands after it
pub first_line-rejoined : (text : List ℕ) → list_any newline text ≡ true → text ≡ before_first newline text ++ 10 ∷ after_first newline text
first_line-rejoined text any =
    elim (cases_lt (position_or_len newline text) (length text)) [
      | inl lt ↦ (let at = eqb-true (get_or text (position_or_len newline text) 0) 10 (passes_at_first newline text 0 lt) in
          split_at_first newline text 0 lt ∙ ap (λ (b : ℕ). before_first newline text ++ b ∷ after_first newline text) at)
      | inr le ↦ (let none = list_any-position_ge newline text le in absurd cc)
    ]

-- one more line of a text
pub text_of-push : (lines : List (List ℕ)) (line : List ℕ) → text_of (lines ++ line ∷ []) ≡ text_of lines ++ (line ++ 10 ∷ [])
text_of-push lines line = text_of-append lines (line ∷ []) ∙ ap (λ (back : List ℕ). text_of lines ++ back) (text_of-one line)

-- a text has a byte at least for each line
pub length-text_of : (lines : List (List ℕ)) → length lines ≤ length (text_of lines)
unfolding text_of
length-text_of [] = omega arith
length-text_of (line ∷ lines) = omega (arith, length-append (line ++ 10 ∷ []) (text_of lines), length-append line (10 ∷ []), length-text_of lines)

-- the lines of a text that is made of lines
pub whole_lines-text_of : (lines : List (List ℕ)) → All HasNoNewline lines → whole_lines (text_of lines) ≡ lines
unfolding text_of
whole_lines-text_of [] all = whole_lines-none [] refl
whole_lines-text_of (line ∷ lines) all =
    let rest = text_of lines in
    let cut = Cut-append newline line 10 rest (All-head HasNoNewline line lines all) refl in
    let joined : (line ++ 10 ∷ []) ++ rest ≡ line ++ 10 ∷ rest = append_assoc line (10 ∷ []) rest in
    ap whole_lines joined
    ∙ whole_lines-some (line ++ 10 ∷ rest) cut.any
    ∙ rw (cut.before, cut.behind, whole_lines-text_of lines (All-tail HasNoNewline line lines all)) refl

-- this text was read up to here, as these lines
pub record HasPassed (text : List ℕ) (lines : List (List ℕ)) (left : List ℕ) : Type 0 where
  pub same : text ≡ text_of lines ++ left
  pub whole : whole_lines text ≡ lines ++ whole_lines left

-- nothing was read
pub HasPassed-start : (text : List ℕ) → HasPassed text [] text
unfolding text_of
HasPassed-start text = record { same = refl; whole = refl }

-- one more line was read
pub HasPassed-line : (text : List ℕ) (lines : List (List ℕ)) (left : List ℕ) → HasPassed text lines left → list_any newline left ≡ true → HasPassed text (lines ++ before_first newline left ∷ []) (after_first newline left)
HasPassed-line text lines left passed any =
    let line = before_first newline left in
    let rest = after_first newline left in
    record {
      same =
          passed.same
          ∙ ap (λ (back : List ℕ). text_of lines ++ back) (first_line-rejoined left any ∙ sym (append_assoc line (10 ∷ []) rest))
          ∙ sym (append_assoc (text_of lines) (line ++ 10 ∷ []) rest)
          ∙ ap (λ (front : List ℕ). front ++ rest) (sym (text_of-push lines line));
      whole =
          passed.whole
          ∙ ap (λ (back : List (List ℕ)). lines ++ back) (whole_lines-some left any)
          ∙ sym (append_assoc lines (line ∷ []) (whole_lines rest));
    }
