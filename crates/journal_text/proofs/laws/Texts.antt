-- The text of lines.
use Rattle.std.proofs.Common.{◌≡◌, ℕ, ◌+◌, List, [], ◌∷◌, ◌++◌, length, refl, sym, ap, ◌∙◌, append_assoc, arith}
use Rattle.std.proofs.lemmas.List.{append-nil}
use Rattle.cache_core.specs.declared.entry.SliceEntry.{SliceEntry}
use Rattle.machine.specs.declared.parameters.Parameters.{Parameters}
use Rattle.journal_text.specs.Lines.{lines_from, slice_lines, text_of}

-- no lines are no text
pub text_of-nil : text_of [] ≡ []
unfolding text_of
text_of-nil = refl

-- a line in front
pub text_of-cons : (line : List ℕ) (lines : List (List ℕ)) → text_of (line ∷ lines) ≡ (line ++ 10 ∷ []) ++ text_of lines
unfolding text_of
text_of-cons line lines = refl

-- one line
pub text_of-one : (line : List ℕ) → text_of (line ∷ []) ≡ line ++ 10 ∷ []
text_of-one line = text_of-cons line [] ∙ ap (λ (t : List ℕ). (line ++ 10 ∷ []) ++ t) text_of-nil ∙ append-nil (line ++ 10 ∷ [])

-- lines after lines
pub text_of-append : (xs ys : List (List ℕ)) → text_of (xs ++ ys) ≡ text_of xs ++ text_of ys
text_of-append [] ys = ap (λ (t : List ℕ). t ++ text_of ys) (sym text_of-nil)
text_of-append (x ∷ xs) ys =
    text_of-cons x (xs ++ ys) ∙ ap (λ (t : List ℕ). (x ++ 10 ∷ []) ++ t) (text_of-append xs ys) ∙ sym (append_assoc (x ++ 10 ∷ []) (text_of xs) (text_of ys)) ∙ ap (λ (t : List ℕ). t ++ text_of ys) (sym (text_of-cons x xs))

-- ---- the lines of slices

-- no slices have no lines
pub lines_from-nil : (m : Parameters) (i : ℕ) → lines_from m i [] ≡ []
unfolding lines_from
lines_from-nil m i = refl

-- a slice in front
pub lines_from-cons : (m : Parameters) (i : ℕ) (entries : List SliceEntry) (slices : List (List SliceEntry)) → lines_from m i (entries ∷ slices) ≡ slice_lines m i entries ++ lines_from m (i + 1) slices
unfolding lines_from
lines_from-cons m i entries slices = refl

-- a slice more
pub lines_from-push : (m : Parameters) (i : ℕ) (slices : List (List SliceEntry)) (entries : List SliceEntry) → lines_from m i (slices ++ entries ∷ []) ≡ lines_from m i slices ++ slice_lines m (i + length slices) entries
lines_from-push m i [] entries =
    let here : i + 0 ≡ i = omega arith in
    lines_from-cons m i entries [] ∙ ap (λ (t : List (List ℕ)). slice_lines m i entries ++ t) (lines_from-nil m (i + 1)) ∙ append-nil (slice_lines m i entries)
    ∙ ap (λ (n : ℕ). slice_lines m n entries) (sym here) ∙ ap (λ (t : List (List ℕ)). t ++ slice_lines m (i + 0) entries) (sym (lines_from-nil m i))
lines_from-push m i (s ∷ slices) entries =
    let there : i + 1 + length slices ≡ i + length (s ∷ slices) = omega arith in
    lines_from-cons m i s (slices ++ entries ∷ []) ∙ ap (λ (t : List (List ℕ)). slice_lines m i s ++ t) (lines_from-push m (i + 1) slices entries ∙ ap (λ (n : ℕ). lines_from m (i + 1) slices ++ slice_lines m n entries) there)
    ∙ sym (append_assoc (slice_lines m i s) (lines_from m (i + 1) slices) (slice_lines m (i + length (s ∷ slices)) entries)) ∙ ap (λ (t : List (List ℕ)). t ++ slice_lines m (i + length (s ∷ slices)) entries) (sym (lines_from-cons m i s slices))
