-- The caches of slices.
-- (For functions and proofs: no promise of the program stands on it.)
use Rattle.std.specs.Prelude.{◌≡◌, ℕ, List}
use Rattle.cache_core.specs.Places.{CacheValue}
use Rattle.cache_core.specs.Stands.{StandsFor}
use Rattle.cache_core.specs.declared.entry.SliceEntry.{SliceEntry}
use Rattle.machine.specs.declared.parameters.Parameters.{Parameters}
use Rattle.run_law.specs.Slices.{shape_in}

-- the cache of slice i of a machine, with the lines that this history left
pub record IsCacheOf (m : Parameters) (i : ℕ) (history : List SliceEntry) (cache : CacheValue) : Type 0 where
  pub shape : cache.shape ≡ shape_in m i
  pub rmids : cache.rmids ≡ m.rmids
  pub stands : StandsFor cache history
