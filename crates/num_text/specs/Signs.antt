-- Signs that stand between two numbers.
use Rattle.std.specs.Prelude.{ℕ, Bool, ◌==◌}

-- the dash of a range, between its first and its last number
abbrev pub dash : ℕ → Bool
dash b = b == 45

-- an equals sign, between the id in an entry, or a key, and what it is given
abbrev pub equals : ℕ → Bool
equals b = b == 61
