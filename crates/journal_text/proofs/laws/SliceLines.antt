-- The line of a slice, by its word and its numbers.
use Rattle.std.proofs.Common.{◌≡◌, ℕ, ◌%◌, ◌^◌, ◌<◌, List, [], ◌∷◌, codes, refl, subst, lt_of_le_of_lt}
use Rattle.std.proofs.Math.Nat.{div-le_self, mod-le}
use Rattle.machine.specs.Slices.{domain_in}
use Rattle.machine.specs.declared.parameters.Parameters.{Parameters}
use Rattle.journal_text.specs.Lines.{fields, slice_line}
use Rattle.journal_text.specs.Taken.{AreNumbers, IsSplit, Takes}
use Rattle.journal_text.proofs.laws.EntryLines.{EndsWord-numbers, IsSplit-unique}
use Rattle.journal_text.proofs.laws.Fields.{Takes-all}

-- the numbers of the line: the domain, the slice's number there, and how many entries follow
abbrev pub place_and_count : Parameters → ℕ → ℕ → List ℕ
place_and_count m i count = domain_in m i ∷ i % m.slices ∷ count ∷ []

-- each has 64 bits
pub AreNumbers-place_and_count : (m : Parameters) (i count : ℕ) → i < 2 ^ 64 → count < 2 ^ 64 → AreNumbers (place_and_count m i count)
AreNumbers-place_and_count m i count small few =
    (lt_of_le_of_lt (div-le_self i m.slices) small, (lt_of_le_of_lt (mod-le i m.slices) small, (few, tt)))

-- the line, cut at its first space
pub IsSplit-slice_line : (m : Parameters) (i count : ℕ) → IsSplit (codes "slice") (fields (place_and_count m i count)) (slice_line m i count)
IsSplit-slice_line m i count = record { same = refl; word_has_no_space = refl; word_ends = EndsWord-numbers (place_and_count m i count) }

-- a line that is cut at its first space and is that of a slice
pub record SliceIs (m : Parameters) (i count : ℕ) (word after : List ℕ) : Type 0 where
  pub word_is : codes "slice" ≡ word
  pub takes : Takes (place_and_count m i count) [] after

-- its word is that of a slice, and its numbers are the slice's
pub SliceIs-line : (m : Parameters) (i count : ℕ) (word after line : List ℕ) → i < 2 ^ 64 → count < 2 ^ 64 → IsSplit word after line → slice_line m i count ≡ line → SliceIs m i count word after
SliceIs-line m i count word after line small few split same =
    let both = IsSplit-unique (codes "slice") word (fields (place_and_count m i count)) after line (subst (λ (t : List ℕ). IsSplit (codes "slice") (fields (place_and_count m i count)) t) same (IsSplit-slice_line m i count)) split in
    record { word_is = both.0; takes = subst (λ (t : List ℕ). Takes (place_and_count m i count) [] t) both.1 (Takes-all (place_and_count m i count) (AreNumbers-place_and_count m i count small few)) }
