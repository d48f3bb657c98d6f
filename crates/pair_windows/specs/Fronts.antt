-- The entries that may stand in the windows that begin at one flush.
-- (For functions and proofs: no promise of the program stands on it.)
use Rattle.std.specs.Prelude.{ℕ, Bool, true, false, List, take}
use Rattle.std.specs.List.{position_or_len}
use Rattle.cache_core.specs.Filled.{empties}
use Rattle.cache_core.specs.declared.entry.SliceEntry.{SliceEntry}
use Rattle.cache_core.specs.declared.entry.What.{What}
use Rattle.cache_core.specs.declared.entry.What.TheVariants.{Flush}

-- how many of these entries stand before the first that empties the cache
abbrev pub front_len : List SliceEntry → ℕ
front_len entries = position_or_len (λ (e : SliceEntry). empties e.what) entries

-- the entries before it
abbrev pub front_of : List SliceEntry → List SliceEntry
front_of entries = take (front_len entries) entries

-- a flush
abbrev pub is_flush : What → Bool
is_flush Flush = true
is_flush what = false

-- how many of these entries stand before the first that is a flush
abbrev pub flush_len : List SliceEntry → ℕ
flush_len entries = position_or_len (λ (e : SliceEntry). is_flush e.what) entries
