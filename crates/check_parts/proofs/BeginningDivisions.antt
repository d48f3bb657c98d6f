-- The division of an input that begins with whole lines.
use Rattle.std.proofs.Common.{◌≡◌, ℕ, ◌+◌, ◌<◌, ◌≤◌, List, [], ◌∷◌, ◌++◌, length, Option, Some, None, refl, sym, ap, ◌∙◌, arith, inl, inr}
use Rattle.std.specs.List.{onto_first}
use Rattle.std.specs.Str.Lines.{lines}
use Rattle.std.proofs.lemmas.Bool.{cases_Bool}
use Rattle.std.proofs.lemmas.List.Splits.{length-slice_split, slice_split-cons_no, slice_split-cons_yes}
use Rattle.check_parts.proofs.Divisions.{division_from-here, division_from-later, division_from-none, newline}
use Rattle.check_parts.specs.Division.{after_line, division_from}
use Rattle.check_parts.specs.declared.division.Division.{Division}
use Rattle.journal_text.specs.Lines.{first_line}
use Rattle.journal_text.specs.Readings.{parts_of}
use Rattle.rc_base.specs.Texts.{is_text}

-- ---- how many bytes they have

-- the bytes of the parts, with a separator after each
pub parts_len : List (List ℕ) → ℕ
parts_len [] = 0
parts_len (part ∷ parts) = length part + 1 + parts_len parts

-- what stands before the line after these
pub passed : Division → List (List ℕ) → Division
passed before [] = before
passed before (line ∷ lines) = passed (after_line before line) lines

-- how many bytes they have
pub bytes-passed : (before : Division) (parts : List (List ℕ)) → (passed before parts).bytes ≡ before.bytes + parts_len parts
unfolding passed parts_len
bytes-passed before [] = omega arith
bytes-passed before (line ∷ parts) =
    let rest = bytes-passed (after_line before line) parts in
    let own : (passed before (line ∷ parts)).bytes ≡ (passed (after_line before line) parts).bytes = refl in
    let more : parts_len (line ∷ parts) ≡ length line + 1 + parts_len parts = refl in
    omega (arith, rest, own, more)

-- one byte more in front of parts
onto_first-len : (x : ℕ) (parts : List (List ℕ)) → 0 < length parts → parts_len (onto_first x parts) ≡ parts_len parts + 1
unfolding parts_len
onto_first-len x [] some = absurd (omega (arith, some))
onto_first-len x (part ∷ parts) some =
    let more : parts_len ((x ∷ part) ∷ parts) ≡ length part + 1 + 1 + parts_len parts = omega arith in
    let own : parts_len (part ∷ parts) ≡ length part + 1 + parts_len parts = refl in
    omega (arith, more, own)

-- the parts of a text have its bytes, and a newline each
pub parts_len-slice_split : (xs : List ℕ) → parts_len (parts_of xs) ≡ length xs + 1
unfolding parts_len
parts_len-slice_split [] = refl
parts_len-slice_split (x ∷ xs) =
    let rest = parts_len-slice_split xs in
    let some : 0 < length (parts_of xs) = omega (arith, length-slice_split newline xs) in
    elim (cases_Bool (newline x)) [
      | inl is ↦ ap parts_len (slice_split-cons_yes newline x xs is) ∙ (let own : parts_len ([] ∷ parts_of xs) ≡ 0 + 1 + parts_len (parts_of xs) = refl in omega (arith, rest, own))
      | inr is ↦ ap parts_len (slice_split-cons_no newline x xs is) ∙ omega (arith, rest, onto_first-len x (parts_of xs) some)
    ]

-- no line of these is that of journals, and so the division is among those that follow
pub division_from-append : (before : Division) (a b : List (List ℕ)) → division_from before a ≡ None → division_from before (a ++ b) ≡ division_from (passed before a) b
unfolding passed
division_from-append before [] b none = refl
division_from-append before (line ∷ a) b none = elim (cases_Bool (is_text line first_line)) [
  | inl here ↦ (let some = division_from-here before line a here in absurd cc)
  | inr other ↦ division_from-later before line (a ++ b) other ∙ division_from-append (after_line before line) a b (sym (division_from-later before line a other) ∙ none)
]

-- a division among these is that of more
pub division_from-front : (before d : Division) (a b : List (List ℕ)) → division_from before a ≡ Some d → division_from before (a ++ b) ≡ Some d
division_from-front before d [] b some = absurd (let none = division_from-none before in cc)
division_from-front before d (line ∷ a) b some = elim (cases_Bool (is_text line first_line)) [
  | inl here ↦ division_from-here before line (a ++ b) here ∙ (sym (division_from-here before line a here) ∙ some)
  | inr other ↦ division_from-later before line (a ++ b) other ∙ division_from-front (after_line before line) d a b (sym (division_from-later before line a other) ∙ some)
]

-- none among more is none among these
pub division_from-none_front : (before : Division) (a b : List (List ℕ)) → division_from before (a ++ b) ≡ None → division_from before a ≡ None
division_from-none_front before a b none = by (division_from before a) refl
  where
    by : (o : Option Division) → division_from before a ≡ o → division_from before a ≡ None
    by None is = is
    by (Some d) is = absurd (let some = division_from-front before d a b is in cc)

-- a division does not stand before the lines that it is among
pub division_from-after : (before d : Division) (lines : List (List ℕ)) → division_from before lines ≡ Some d → before.bytes ≤ d.bytes
division_from-after before d [] some = absurd (let none = division_from-none before in cc)
division_from-after before d (line ∷ lines) some = elim (cases_Bool (is_text line first_line)) [
  | inl here ↦ (let own = division_from-here before line lines here in let same : Some before ≡ Some d = sym own ∙ some in let is : before ≡ d = cc in omega (arith, ap (λ (x : Division). x.bytes) is))
  | inr other ↦ (let rest = division_from-after (after_line before line) d lines (sym (division_from-later before line lines other) ∙ some) in omega (arith, rest))
]
