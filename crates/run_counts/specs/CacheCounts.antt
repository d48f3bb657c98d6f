-- What is counted from the entries of several caches.
-- (For functions and proofs: no promise of the program stands on it.)
use Rattle.std.specs.Prelude.{ℕ, List, [], map}
use Rattle.cache_core.specs.History.{shape_of, valid_of}
use Rattle.cache_core.specs.declared.entry.SliceEntry.{SliceEntry}
use Rattle.machine.specs.declared.parameters.Parameters.{Parameters}
use Rattle.run_counts.specs.Tallies.{TallyValue}
use Rattle.run_law.specs.Journals.{JournalsValue}

-- the accesses, hits and misses of groups in all of them, and the lines that each holds at the end
pub record CacheCountsValue : Type 0 where
  pub tally : TallyValue
  pub valid : List ℕ

-- these histories of slices, without a history of a tree
abbrev pub slices_alone : List (List SliceEntry) → JournalsValue
slices_alone caches = record { tree = []; slices = caches }

-- how many lines each of these caches holds at the end; each is the only slice of its domain
abbrev pub valid_in : Parameters → List (List SliceEntry) → List ℕ
valid_in m caches = map (valid_of (shape_of m 0)) caches
