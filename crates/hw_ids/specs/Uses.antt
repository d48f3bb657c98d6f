-- What an RMID is used for.
-- (For functions and proofs: no promise of the program stands on it.)
use Rattle.std.specs.Prelude.{ℕ, Bool, true, false, nat_lt, if◌then◌else◌}
use Rattle.hw_ids.specs.declared.uses.Use.{Use}
use Rattle.hw_ids.specs.declared.uses.Use.TheVariants.{Free, Taken, Limbo}

-- whether an RMID is free
abbrev pub is_free : Use → Bool
is_free Free = true
is_free Taken = false
is_free Limbo = false

-- whether an RMID is taken
abbrev pub is_taken : Use → Bool
is_taken Free = false
is_taken Taken = true
is_taken Limbo = false

-- whether an RMID is in limbo
abbrev pub is_limbo : Use → Bool
is_limbo Free = false
is_limbo Taken = false
is_limbo Limbo = true

-- what becomes of an RMID that is given up or in limbo, whose lines hold so many bytes
abbrev pub use_after : ℕ → ℕ → Use
use_after threshold bytes = if nat_lt threshold bytes then Limbo else Free
