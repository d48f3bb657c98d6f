-- What a lock loads into the places of a slice.
-- (For functions and proofs: no promise of the program stands on it.)
use Rattle.std.specs.Prelude.{◌≡◌, ℕ, ◌+◌, ◌*◌, ◌/◌, ◌<◌, List, Option, Some, None, if◌then◌else◌}
use Rattle.cbm.specs.Masks.{has_way}
use Rattle.cache_core.specs.declared.cached_line.CachedLine.{CachedLine}
use Rattle.cache_core.specs.History.{Shape, IsOwn, ways_below}
use Rattle.cache_core.specs.Places.{set_in, place_in}

-- a line that is loaded has RMID 0 and this stamp
abbrev pub loaded : ℕ → ℕ → Option CachedLine
loaded line stamp = Some (record { line = line; rmid = 0; used = stamp })

-- what a lock loads into a place: a line of the region in each way of its mask
abbrev pub loaded_place : Shape → ℕ → ℕ → ℕ → ℕ → ℕ → Option CachedLine
loaded_place m mask first_line stamp set way = if has_way mask way then loaded (first_line + set + ways_below mask way * m.sets) stamp else None

-- the kept sets hold what is loaded, and nothing else
abbrev pub AreLoaded : Shape → ℕ → ℕ → ℕ → List (List (Option CachedLine)) → Type 0
AreLoaded m mask first_line stamp own = (set way : ℕ) → IsOwn m set → way < m.ways → place_in (set_in own (set / m.slices)) way ≡ loaded_place m mask first_line stamp set way
