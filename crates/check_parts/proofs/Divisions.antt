-- The lines of an input, one after the other, up to its division.
use Rattle.std.proofs.Common.{◌≡◌, ℕ, ◌+◌, Bool, true, false, eqb, List, [], ◌∷◌, length, Some, None, refl, sym, ap, ◌∙◌, arith, inl, inr, length-drop}
use Rattle.std.specs.List.{after_first, before_first, list_any, position_or_len, slice_split}
use Rattle.std.proofs.lemmas.Bool.{cases_lt}
use Rattle.std.proofs.lemmas.List.{length-take}
use Rattle.lists.proofs.Cuts.{before_first-none, list_any-position_ge, slice_split-none, slice_split-some}
use Rattle.journal_text.specs.Lines.{first_line}
use Rattle.journal_text.specs.Readings.{parts_of}
use Rattle.rc_base.specs.Texts.{is_text}
use Rattle.check_parts.specs.Division.{after_line, division_from}
use Rattle.check_parts.specs.declared.division.Division.{Division}

abbrev pub newline : ℕ → Bool
newline b = eqb b 10

-- the first line of what is left is that of journals
pub division_from-here : (before : Division) (line : List ℕ) (lines : List (List ℕ)) → is_text line first_line ≡ true → division_from before (line ∷ lines) ≡ Some before
unfolding division_from
division_from-here before line lines here = rw here refl

-- it is another
pub division_from-later : (before : Division) (line : List ℕ) (lines : List (List ℕ)) → is_text line first_line ≡ false → division_from before (line ∷ lines) ≡ division_from (after_line before line) lines
unfolding division_from
division_from-later before line lines other = rw other refl

-- no line is left
pub division_from-none : (before : Division) → division_from before [] ≡ None
unfolding division_from
division_from-none before = refl

-- ---- the first line of a text

-- a text has one
pub parts_of-first : (text : List ℕ) → (lines : List (List ℕ)) × (parts_of text ≡ before_first newline text ∷ lines)
parts_of-first text = at (list_any newline text) refl
  where
    at : (b : Bool) → list_any newline text ≡ b → (lines : List (List ℕ)) × (parts_of text ≡ before_first newline text ∷ lines)
    at true some = (slice_split newline (after_first newline text), slice_split-some newline text some)
    at false none = ([], slice_split-none newline text none ∙ ap (λ (line : List ℕ). line ∷ []) (sym (before_first-none newline text none)))

-- without a newline the whole text is the one line
pub parts_of-last : (text : List ℕ) → list_any newline text ≡ false → parts_of text ≡ before_first newline text ∷ []
parts_of-last text none = slice_split-none newline text none ∙ ap (λ (line : List ℕ). line ∷ []) (sym (before_first-none newline text none))

-- with one, the others are those of what stands after it
pub parts_of-more : (text : List ℕ) → list_any newline text ≡ true → parts_of text ≡ before_first newline text ∷ parts_of (after_first newline text)
parts_of-more text some = slice_split-some newline text some

-- the line, its newline and what stands after it are the text
pub length-cut : (text : List ℕ) → list_any newline text ≡ true → length (before_first newline text) + 1 + length (after_first newline text) ≡ length text
length-cut text some =
    let n = position_or_len newline text in
    elim (cases_lt n (length text)) [
      | inl lt ↦ omega (arith, lt, length-take n text, length-drop (n + 1) text)
      | inr le ↦ (let none = list_any-position_ge newline text le in absurd cc)
    ]
