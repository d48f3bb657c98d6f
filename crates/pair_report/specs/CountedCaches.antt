-- The caches of a level, with what is counted in them.
-- (For functions and proofs: no promise of the program stands on it.)
use Rattle.std.specs.Prelude.{◌≡◌, List, length, map}
use Rattle.cache_core.specs.declared.entry.SliceEntry.{SliceEntry}
use Rattle.machine.specs.declared.parameters.Parameters.{Parameters}
use Rattle.pair_report.specs.declared.counted_caches.CountedCaches.{CountedCaches}
use Rattle.run_counts.specs.CacheCounts.{slices_alone, valid_in}
use Rattle.run_counts.specs.Tallies.{IsTallyOf}
use Rattle.run_law.specs.Entries.{entries_of}

-- the histories of the caches
abbrev pub histories_of : CountedCaches → List (List SliceEntry)
histories_of c = map entries_of c.entries.now

-- the accesses, hits and misses of groups are those in the histories
abbrev pub HasTally : CountedCaches → Type 0
HasTally c = IsTallyOf (slices_alone (histories_of c)) (length (histories_of c)) c.counts.now.tally

-- the lines at the end are those of caches of this size
abbrev pub HasValid : Parameters → CountedCaches → Type 0
HasValid m c = c.counts.now.valid ≡ valid_in m (histories_of c)
