-- What a program makes of a source that is read piece by piece.
-- (For functions and proofs: no promise of the program stands on it.)
use Rattle.std.specs.Prelude.{ℕ, List, Option}
use Rattle.call_rim.specs.Outside.{IsToTheEnd, LeavesNothing}
use Rattle.call_rim.specs.Performing.{Performs}
use Rattle.call_rim.specs.declared.performed.Performed.{Performed}
use Rattle.call_rim.specs.declared.performed.Performed.TheVariants as performed

-- a source with a report was read to its end
abbrev pub LeavesPerformed : {T : Type 0} → Performed T → Option (List ℕ) → Option (List ℕ) → Type 0
LeavesPerformed (performed.Refused line) left now = Unit {0}
LeavesPerformed (performed.Reported outcome report) left now = LeavesNothing left now
LeavesPerformed performed.NoMemory left now = Unit {0}

-- this was made of all bytes that the source had left
pub record IsMade {T : Type 0} (refuses : List ℕ → List ℕ → Type 0) (reports : List ℕ → T → List ℕ → Type 0) (left now : Option (List ℕ)) (made : Performed T) : Type 0 where
  pub bytes : List ℕ
  pub to_the_end : IsToTheEnd left bytes
  pub performed : Performs refuses reports bytes made
  pub leaves : LeavesPerformed made left now
