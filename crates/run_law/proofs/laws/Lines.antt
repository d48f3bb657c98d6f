-- How many lines a slice of a machine can hold.
use Rattle.std.proofs.Common.{ℕ, ◌*◌, ◌≤◌, List, arith}
use Rattle.std.proofs.lemmas.Nat.{mul-le}
use Rattle.cache_core.specs.History.{lines_of, valid_of}
use Rattle.cache_core.specs.declared.entry.SliceEntry.{SliceEntry}
use Rattle.cache_core.proofs.laws.Lines.{lines_of-le, valid_of-le}
use Rattle.machine.specs.Ranges.{InRange}
use Rattle.machine.specs.declared.parameters.Parameters.{Parameters}
use Rattle.run_law.specs.Slices.{shape_in}

-- a machine has few sets and ways
places-few : (m : Parameters) → InRange m → m.sets * m.ways ≤ 2097152
places-few m range = mul-le m.sets m.ways 65536 32 range.set_limit range.way_limit

-- lines of an RMID
pub lines_of-few : (m : Parameters) (i : ℕ) (entries : List SliceEntry) (rmid : ℕ) → InRange m → lines_of (shape_in m i) entries rmid ≤ 2097152
lines_of-few m i entries rmid range = omega (arith, lines_of-le (shape_in m i) entries rmid, places-few m range)

-- lines of any
pub valid_of-few : (m : Parameters) (i : ℕ) (entries : List SliceEntry) → InRange m → valid_of (shape_in m i) entries ≤ 2097152
valid_of-few m i entries range = omega (arith, valid_of-le (shape_in m i) entries, places-few m range)
