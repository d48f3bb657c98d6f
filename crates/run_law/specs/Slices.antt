-- The shape of a slice.
use Rattle.std.specs.Prelude.{ℕ, ◌%◌}
use Rattle.cache_core.specs.History.{Shape, shape_of}
use Rattle.machine.specs.declared.parameters.Parameters.{Parameters}

-- the shape of a slice, by its number over all domains
abbrev pub shape_in : Parameters → ℕ → Shape
shape_in m i = shape_of m (i % m.slices)
