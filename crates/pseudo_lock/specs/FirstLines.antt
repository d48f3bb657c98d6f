-- The first lines of regions.
-- (For functions and proofs: no promise of the program stands on it.)
use Rattle.std.specs.Prelude.{◌≡◌, ℕ, ◌+◌, ◌%◌, ◌^◌, ◌<◌}
use Rattle.machine.specs.Ranges.{InRange}
use Rattle.machine.specs.declared.parameters.Parameters.{Parameters}
use Rattle.pseudo_lock.specs.Regions.{first_line_of}

-- no line is of two regions, each of which has fewer than 2^32 lines
abbrev pub LinesAreApart : Type 0
LinesAreApart = (number other i j : ℕ) → i < 2 ^ 32 → j < 2 ^ 32 → first_line_of number + i ≡ first_line_of other + j → number ≡ other

-- a first line is one of set 0
abbrev pub FirstLinesAreWhole : Type 0
FirstLinesAreWhole = (p : Parameters) → InRange p → (number : ℕ) → first_line_of number % p.sets ≡ 0

-- the lines of all regions that may be placed are below 2^60
abbrev pub FirstLinesAreLow : Type 0
FirstLinesAreLow = (number i : ℕ) → number < 4000000 → i < 2 ^ 32 → first_line_of number + i < 2 ^ 60
