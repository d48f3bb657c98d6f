-- The maps of CPUs and lines, and sizes in bytes.
use Rattle.std.specs.Prelude.{ℕ, ◌*◌, ◌/◌, ◌%◌, List, length}
use Rattle.machine.specs.declared.parameters.Parameters.{Parameters}
use Rattle.machine.specs.declared.machine.Machine.{Machine}

-- a machine's parameters
abbrev pub parameters_of : Machine → Parameters
parameters_of m = record { domains = m.domains; sets = m.sets; ways = m.ways; classes = m.classes; rmids = m.rmids; cpus = m.cpus; min = m.min; shareable = m.shareable; threshold = m.threshold; sparse = m.sparse; slices = m.slices }

-- the domain of a CPU: CPUs go to the domains in order, as evenly as they can
abbrev pub domain_of : Parameters → ℕ → ℕ
domain_of p cpu = cpu * p.domains / p.cpus

-- the line of an address, which has 64 bytes
abbrev pub line_of : ℕ → ℕ
line_of address = address / 64

-- the set of a line
abbrev pub set_of : Parameters → ℕ → ℕ
set_of p line = line % p.sets

-- the slice of a set
abbrev pub slice_of : Parameters → ℕ → ℕ
slice_of p set = set % p.slices

-- the bytes of these ways of one cache, with lines of 64 bytes
abbrev pub bytes_of : Parameters → List ℕ → ℕ
bytes_of p ways = p.sets * 64 * length ways

-- the bytes of one cache
abbrev pub cache_bytes : Parameters → ℕ
cache_bytes p = p.sets * 64 * p.ways
