-- One step after the other, up to the first fault.
use Rattle.std.specs.Prelude.{Bool, Result, Ok, Err, if◌then◌else◌}

infixl 10 ◌>>=◌
-- what follows from a value, or the fault where there is none
abbrev pub ◌>>=◌ : {A B F : Type 0} → Result A F → (A → Result B F) → Result B F
(Ok x) >>= f = f x
(Err fault) >>= f = Err fault

-- a fault where a test says so
abbrev pub fault_if : {F : Type 0} → Bool → F → Result (Unit {0}) F
fault_if b fault = if b then Err fault else Ok tt
