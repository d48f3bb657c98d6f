-- How many whole lines a text has.
use Rattle.std.proofs.Common.{ℕ, ◌-◌, ◌≤◌, Bool, eqb, List, length, arith}
use Rattle.std.proofs.lemmas.List.{length-take}
use Rattle.std.proofs.lemmas.List.Splits.{length-slice_split}
use Rattle.std.proofs.lemmas.List.Sums.{count_by-le-length}
use Rattle.journal_text.specs.Readings.{parts_of, whole_lines}

-- no more than it has bytes
pub length-whole_lines : (text : List ℕ) → length (whole_lines text) ≤ length text
unfolding whole_lines
length-whole_lines text =
    let newline : ℕ → Bool = λ b. eqb b 10 in
    omega (arith, length-take (length (parts_of text) - 1) (parts_of text), length-slice_split newline text, count_by-le-length newline text)
