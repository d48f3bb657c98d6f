-- How far back a line was used last.
-- (For functions and proofs: no promise of the program stands on it.)
use Rattle.std.specs.Prelude.{ℕ, ◌+◌, ◌-◌, ◌*◌, ◌/◌, ◌%◌, Bool, false, nat_lt, Option, Some, None}
use Rattle.lists.specs.Sums.{one_if}

-- whether fewer than so many other lines were used since
abbrev pub is_below : ℕ → Option ℕ → Bool
is_below most None = false
is_below most (Some distance) = nat_lt distance most

-- Of a run of so many lines, one after the other, how many have fewer than `most` other lines of the run in their set: each of the first
-- sets has one line more than the others.
abbrev pub uses_of_run : ℕ → ℕ → ℕ → ℕ
uses_of_run sets lines most =
    (lines % sets * (lines / sets) + lines % sets) * one_if (nat_lt (lines / sets) most) + ((sets - lines % sets) * (lines / sets)) * one_if (nat_lt (lines / sets - 1) most)
