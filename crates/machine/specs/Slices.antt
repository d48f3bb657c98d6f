-- The slices of all domains, numbered by domain and then by slice.
use Rattle.std.specs.Prelude.{ℕ, ◌+◌, ◌*◌, ◌/◌}
use Rattle.machine.specs.Maps.{set_of, slice_of}
use Rattle.machine.specs.declared.parameters.Parameters.{Parameters}

-- how many slices there are, over all domains
abbrev pub slice_count : Parameters → ℕ
slice_count p = p.domains * p.slices

-- the number of a slice over all domains, by its domain and its number there
abbrev pub slice_number : Parameters → ℕ → ℕ → ℕ
slice_number p domain slice = domain * p.slices + slice

-- the number over all domains of the slice of a line
abbrev pub slice_of_line : Parameters → ℕ → ℕ → ℕ
slice_of_line p domain line = slice_number p domain (slice_of p (set_of p line))

-- the domain of a slice, by its number over all domains
abbrev pub domain_in : Parameters → ℕ → ℕ
domain_in p number = number / p.slices
