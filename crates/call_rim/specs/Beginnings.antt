-- Inputs that are refused by their beginning.
-- (For functions and proofs: no promise of the program stands on it.)
use Rattle.std.specs.Prelude.{◌≡◌, ℕ, ◌≤◌, List, ◌++◌, length, Option, Some, None, Vec}
use Rattle.std.specs.Io.KnownBytes.{Consumes}
use Rattle.std.specs.declared.alloc.Global.{Global}
use Rattle.call_rim.specs.Outside.{IsInput}
use Rattle.call_rim.specs.Performing.{Performs}
use Rattle.call_rim.specs.Within.{RefusesWithin, ReportsWithin}
use Rattle.call_rim.specs.declared.performed.Performed.{Performed}

-- if there is a line, all that begins with these bytes and is not too large is refused with it
abbrev pub RefusesAll : ℕ → (List ℕ → List ℕ → Type 0) → List ℕ → Option (Vec ℕ Global) → Type 0
RefusesAll most refuses bytes (Some line) = (more : List ℕ) → length (bytes ++ more) ≤ most → refuses (bytes ++ more) line.items
RefusesAll most refuses bytes None = Unit {0}

-- so many bytes were taken of a source, where its bytes are known
pub record Passes (left now : Option (List ℕ)) (n : ℕ) : Type 0 where
  pub bytes : List ℕ
  pub taken : Consumes left now bytes
  pub count : length bytes ≡ n

-- this was made of all bytes that the source had left, or of one more than the most
pub record IsMadeOf {T : Type 0} (most : ℕ) (refuses : List ℕ → List ℕ → Type 0) (reports : List ℕ → T → List ℕ → Type 0) (left now : Option (List ℕ)) (made : Performed T) : Type 0 where
  pub bytes : List ℕ
  pub taken : Consumes left now bytes
  pub input : IsInput most left bytes
  pub performed : Performs (RefusesWithin most refuses) (ReportsWithin most reports) bytes made
