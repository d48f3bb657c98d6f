-- The lines of a region, by offset, and by set and way.
-- (For functions and proofs: no promise of the program stands on it.)
use Rattle.std.specs.Prelude.{ℕ, ◌+◌, ◌*◌, ◌/◌, nat_lt, length, filter, Option, Some, None, if◌then◌else◌}
use Rattle.cbm.specs.Masks.{has_way, ways_of}
use Rattle.machine.specs.Maps.{bytes_of}
use Rattle.machine.specs.declared.parameters.Parameters.{Parameters}
use Rattle.pseudo_lock.specs.declared.region.Region.{Region}

-- the line at this offset in bytes, where that is below the region's size
abbrev pub line_at : Parameters → Region → ℕ → Option ℕ
line_at p r offset = if nat_lt offset (bytes_of p (ways_of r.mask)) then Some (r.first_line + offset / 64) else None

-- how many ways below this one the mask has
abbrev pub ways_below : ℕ → ℕ → ℕ
ways_below mask way = length (filter (λ other. nat_lt other way) (ways_of mask))

-- what a Lock puts in a place: the i-th way of its mask, rising, has one line of each set in order, after those of the ways
-- before it
abbrev pub loaded_line : Parameters → ℕ → ℕ → ℕ → ℕ → Option ℕ
loaded_line p mask first_line set way = if has_way mask way then Some (first_line + set + ways_below mask way * p.sets) else None
