-- What a program makes of an input, by what it refuses and what it reports on.
-- (For functions and proofs: no promise of the program stands on it.)
use Rattle.std.specs.Prelude.{ℕ, List, ◌++◌}
use Rattle.call_rim.specs.declared.performed.Performed.{Performed}
use Rattle.call_rim.specs.declared.performed.Performed.TheVariants as performed
use Rattle.call_rim.specs.declared.stream_program.Taken.{Taken}
use Rattle.call_rim.specs.declared.stream_program.Taken.TheVariants as taken

-- these bytes are refused with the line, or they have the outcome and the report; out of memory says nothing of them
abbrev pub Performs : {T : Type 0} → (List ℕ → List ℕ → Type 0) → (List ℕ → T → List ℕ → Type 0) → List ℕ → Performed T → Type 0
Performs refuses reports bytes (performed.Refused line) = refuses bytes line.items
Performs refuses reports bytes (performed.Reported outcome report) = reports bytes outcome report.items
Performs refuses reports bytes performed.NoMemory = Unit {0}

-- The state is that after these bytes, which are good so far; or whatever follows them is refused with the line. Out of memory says
-- nothing of them.
abbrev pub Takes : (List ℕ → Type 0) → (List ℕ → Type 0) → (List ℕ → List ℕ → Type 0) → List ℕ → Taken → Type 0
Takes has_taken good_so_far refuses bytes taken.More = has_taken bytes × good_so_far bytes
Takes has_taken good_so_far refuses bytes (taken.Refused line) = (more : List ℕ) → refuses (bytes ++ more) line.items
Takes has_taken good_so_far refuses bytes taken.NoMemory = Unit {0}
