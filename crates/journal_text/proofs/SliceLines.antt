-- The lines of slices in two parts.
use Rattle.std.proofs.Common.{◌≡◌, ℕ, ◌+◌, List, [], ◌∷◌, ◌++◌, length, sym, ap, ◌∙◌, arith, append_assoc}
use Rattle.cache_core.specs.declared.entry.SliceEntry.{SliceEntry}
use Rattle.journal_text.specs.Lines.{lines_from, slice_lines}
use Rattle.machine.specs.declared.parameters.Parameters.{Parameters}

-- the lines of slices, and those of the slices after them
pub lines_from-append : (m : Parameters) (i : ℕ) (xs ys : List (List SliceEntry)) → lines_from m i (xs ++ ys) ≡ lines_from m i xs ++ lines_from m (i + length xs) ys
unfolding lines_from
lines_from-append m i [] ys = let e : i ≡ i + 0 = omega arith in ap (λ (k : ℕ). lines_from m k ys) e
lines_from-append m i (entries ∷ xs) ys =
    let e : i + 1 + length xs ≡ i + length (entries ∷ xs) = omega arith in
    ap (λ (back : List (List ℕ)). slice_lines m i entries ++ back) (lines_from-append m (i + 1) xs ys ∙ ap (λ (k : ℕ). lines_from m (i + 1) xs ++ lines_from m k ys) e)
    ∙ sym (append_assoc (slice_lines m i entries) (lines_from m (i + 1) xs) (lines_from m (i + length (entries ∷ xs)) ys))
