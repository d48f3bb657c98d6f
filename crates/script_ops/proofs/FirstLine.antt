-- The lines of a text, one after the other.
use Rattle.std.proofs.Common.{◌≡◌, ℕ, ◌<◌, ◌==◌, Bool, true, false, List, [], ◌∷◌, length, Option, Some, None, MatchOption, Bor, refl, ap, ◌∙◌, arith}
use Rattle.std.specs.List.{list_any, slice_split, before_first, after_first}
use Rattle.std.specs.Str.Lines.{lines, lines_of_parts, strip_carriage_return}
use Rattle.std.proofs.lemmas.Bool.{ne_eqb}
use Rattle.std.proofs.lemmas.List.Splits.{length-slice_split}
use Rattle.lists.proofs.Cuts.{length-after_first, slice_split-none, slice_split-some, lines_of_parts-cons}

abbrev pub newline : ℕ → Bool
newline b = b == 10

-- a text with a newline
pub lines-some : (text : List ℕ) → list_any newline text ≡ true → (lines text ≡ strip_carriage_return (before_first newline text) ∷ lines (after_first newline text)) × (length (after_first newline text) < length text)
lines-some text has =
    (ap lines_of_parts (slice_split-some newline text has) ∙ lines_of_parts-cons (before_first newline text) (slice_split newline (after_first newline text)) (omega (arith, length-slice_split newline (after_first newline text))), length-after_first newline text has)

-- a text without one
lines-one : (text : List ℕ) → list_any newline text ≡ false → 0 < length text → lines text ≡ text ∷ []
lines-one text hasnt some = ap lines_of_parts (slice_split-none newline text hasnt) ∙ (rw (ne_eqb (length text) 0 (omega arith)) refl)

-- what is left of a text after its last newline
pub lines-last : (text : List ℕ) → list_any newline text ≡ false → (o : Option (Bor (List ℕ) × Bor (List ℕ))) → MatchOption o (text ≡ []) (λ p. (p.0.now ≡ text) × (p.1.now ≡ []) × (0 < length text)) → MatchOption o (lines text ≡ []) (λ p. (lines text ≡ p.0.now ∷ lines p.1.now) × (length p.1.now < length text))
lines-last text hasnt None h = ap lines h
lines-last text hasnt (Some p) h = rw (h.0, h.1) (lines-one text hasnt h.2, h.2)
