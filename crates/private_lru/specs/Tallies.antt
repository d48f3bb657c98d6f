-- What is counted of the windows of exclusive groups, entry by entry.
-- (For functions and proofs: no promise of the program stands on it.)
use Rattle.std.specs.Prelude.{◌≡◌, ℕ, ◌<◌, List, length, min, slice_index_or, take}
use Rattle.cache_core.specs.declared.entry.SliceEntry.{SliceEntry}
use Rattle.cache_core.specs.declared.entry.What.{What}
use Rattle.private_lru.specs.Covered.{covered}
use Rattle.private_lru.specs.GroupCounts.{accesses_of, hits_of_group}
use Rattle.private_lru.specs.declared.counts.WindowCounts.{WindowCounts}
use Rattle.private_lru.specs.Ends.{held_len}
use Rattle.private_lru.specs.declared.exclusive_span.ExclusiveSpan.{ExclusiveSpan}

-- What is counted of a group's window among the first `count` entries, where the covered ones end there.
pub record IsTally (entries : List SliceEntry) (count : ℕ) (s : ExclusiveSpan) (end : ℕ) (c : WindowCounts) : Type 0 where
  pub accesses : c.accesses ≡ accesses_of s.gid.0 (take (min count (held_len s.last entries)) entries)
  pub hits : c.hits ≡ hits_of_group s.gid.0 (take (min count (held_len s.last entries)) entries)
  pub covers : c.covered ≡ accesses_of s.gid.0 (take (min count (min end (held_len s.last entries))) entries)
  pub covers_hits : c.covered_hits ≡ hits_of_group s.gid.0 (take (min count (min end (held_len s.last entries))) entries)

-- The same of these groups.
pub record AreTallies (entries : List SliceEntry) (count : ℕ) (stays : List ExclusiveSpan) (ends : List ℕ) (tallies : List WindowCounts) : Type 0 where
  pub same : length tallies ≡ length stays
  pub each : (j : ℕ) (d : ExclusiveSpan) (n : WindowCounts) → j < length stays → IsTally entries count (slice_index_or stays j d) (slice_index_or ends j 0) (slice_index_or tallies j n)

-- The counts of a group's window among the entries after its opening.
pub record IsCounted (sets : ℕ) (opening : What) (entries : List SliceEntry) (s : ExclusiveSpan) (c : WindowCounts) : Type 0 where
  pub accesses : c.accesses ≡ accesses_of s.gid.0 (take (held_len s.last entries) entries)
  pub hits : c.hits ≡ hits_of_group s.gid.0 (take (held_len s.last entries) entries)
  pub covers : c.covered ≡ length (covered sets s.gid.0 opening (take (held_len s.last entries) entries))
  pub covers_hits : c.covered_hits ≡ hits_of_group s.gid.0 (covered sets s.gid.0 opening (take (held_len s.last entries) entries))

-- The same of these groups.
pub record AreCounted (sets : ℕ) (opening : What) (entries : List SliceEntry) (stays : List ExclusiveSpan) (counts : List WindowCounts) : Type 0 where
  pub same : length counts ≡ length stays
  pub each : (j : ℕ) (d : ExclusiveSpan) (n : WindowCounts) → j < length stays → IsCounted sets opening entries (slice_index_or stays j d) (slice_index_or counts j n)
