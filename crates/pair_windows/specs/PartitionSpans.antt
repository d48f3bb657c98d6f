-- Partitions of an epoch that are kept for some more, while the commands of a script are taken once more.
-- (For functions and proofs: no promise of the program stands on it.)
use Rattle.std.specs.Prelude.{ℕ, ◌<◌, AllPairs, All, List, map}
use Rattle.pair_law.specs.Epochs.{state_at}
use Rattle.pair_law.specs.State.{PairState}
use Rattle.pair_text.specs.Values.{PairScriptValue}
use Rattle.pair_text.specs.declared.group.PairGroup.{PairGroup}
use Rattle.pair_law.specs.CdpRuns.{owner_on}
use Rattle.pair_windows.specs.Partitions.{is_kept_at, partitions_in}
use Rattle.pair_windows.specs.declared.partition.Partition.{Partition}
use Rattle.private_lru.specs.declared.exclusive_span.ExclusiveSpan.{ExclusiveSpan}
use Rattle.private_lru.specs.Keeping.{span_of}
use Rattle.private_lru.specs.declared.span.Span.{Span}

-- a partition of an epoch, with the last epoch, of so many more, up to which it is kept
abbrev pub kept_of : PairScriptValue → ℕ → ℕ → ℕ → Partition → Span Partition
kept_of script domain epoch more p = span_of (is_kept_at script domain) epoch more p

-- the same of all partitions of the epoch, in order
abbrev pub kept_from : PairScriptValue → ℕ → ℕ → ℕ → List (Span Partition)
kept_from script domain epoch more = map (kept_of script domain epoch more) (partitions_in domain (state_at script epoch))

-- the same, as the counts of windows know it
abbrev pub stay_of : Span Partition → ExclusiveSpan
stay_of s = record { last = s.last; gid = owner_on s.held.gid s.held.side; mask = s.held.mask }

-- The groups stand in order of their serial numbers, which are below the next one.
pub record RiseByGid (s : PairState) : Type 0 where
  pub rising : AllPairs (λ (a b : PairGroup). a.gid.0 < b.gid.0) s.groups
  pub below : All (λ (g : PairGroup). g.gid.0 < s.next_gid) s.groups
