-- The first of several reasons that holds.
use Rattle.std.specs.Prelude.{Bool, List, [], ◌∷◌, Result, Ok, Err, if◌then◌else◌}

-- the first of these reasons that holds, and Ok where none does
abbrev pub first_of : {E : Type 0} → (E → Bool) → List E → Result (Unit {0}) E
first_of holds [] = Ok tt
first_of holds (reason ∷ reasons) = if holds reason then Err reason else first_of holds reasons
