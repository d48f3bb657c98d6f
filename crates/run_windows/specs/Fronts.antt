-- The entries that may stand in the windows that begin at one flush or lock.
-- (For functions and proofs: no promise of the program stands on it.)
use Rattle.std.specs.Prelude.{ℕ, ◌+◌, List, drop, take}
use Rattle.std.specs.List.{position_or_len}
use Rattle.cache_core.specs.Filled.{empties}
use Rattle.cache_core.specs.declared.entry.SliceEntry.{SliceEntry}

-- the entries of a slice after a place, up to the first that empties it
abbrev pub front_of : ℕ → List SliceEntry → List SliceEntry
front_of from entries = take (position_or_len (λ (e : SliceEntry). empties e.what) (drop (from + 1) entries)) (drop (from + 1) entries)
