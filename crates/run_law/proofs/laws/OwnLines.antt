-- What an access needs of its slice: a line of the slice's own, and a mask that has a way.
use Rattle.std.proofs.Common.{ℕ, ◌%◌, ◌^◌, ◌<◌, sym, arith}
use Rattle.std.proofs.Math.Nat.{mod-eq_of_lt}
use Rattle.std.proofs.lemmas.Nat.{mod_below}
use Rattle.cache_core.specs.History.{IsOwn}
use Rattle.machine.proofs.laws.Slices.{slice_number-mod}
use Rattle.machine.specs.Maps.{set_of, slice_of}
use Rattle.machine.specs.Slices.{slice_of_line}
use Rattle.machine.specs.declared.parameters.Parameters.{Parameters}
use Rattle.run_law.specs.Slices.{shape_in}

-- a line's set is of the slice that it goes to
pub IsOwn-shape_in : (m : Parameters) (domain line : ℕ) → 0 < m.sets → 0 < m.slices → IsOwn (shape_in m (slice_of_line m domain line)) (line % m.sets)
IsOwn-shape_in m domain line sets slices = (mod_below line m.sets sets, sym (slice_number-mod m domain (slice_of m (set_of m line)) (mod_below (line % m.sets) m.slices slices)))

-- a mask of ways that exist has one of them
pub mod-some_way : (mask ways : ℕ) → 0 < mask → mask < 2 ^ ways → 0 < mask % 2 ^ ways
mod-some_way mask ways some fits = omega (arith, some, mod-eq_of_lt {n = mask} {m = 2 ^ ways} fits)
