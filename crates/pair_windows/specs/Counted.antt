-- Windows with the counts that were made for them.
-- (For functions and proofs: no promise of the program stands on it.)
use Rattle.std.specs.Prelude.{◌≡◌, ℕ, ◌≤◌, AllPairs, List, [], ◌∷◌, length}
use Rattle.cache_core.specs.declared.entry.SliceEntry.{SliceEntry}
use Rattle.cache_core.specs.declared.entry.What.TheVariants.{Flush}
use Rattle.cbm.specs.Masks.{ways_of}
use Rattle.pair_windows.specs.declared.cdp_window.CdpWindow.{CdpWindow}
use Rattle.private_lru.specs.declared.span.Span.{Span}
use Rattle.pair_windows.specs.declared.partition.Partition.{Partition}
use Rattle.private_lru.specs.declared.counts.WindowCounts.{WindowCounts}
use Rattle.run_law.specs.Journals.{At}

-- the window of a partition with these counts; as many accesses hit in a private cache as covered ones hit
abbrev pub counted_window : ℕ → ℕ → Partition → WindowCounts → CdpWindow
counted_window domain from p c = record {
  domain = domain;
  gid = p.gid;
  side = p.side;
  ways = length (ways_of p.mask);
  from = from;
  accesses = c.accesses;
  hits = c.hits;
  covered = c.covered;
  covered_hits = c.covered_hits;
  private = c.covered_hits;
}

-- the windows of these partitions, each with its counts
abbrev pub counted_windows : ℕ → ℕ → List (Span Partition) → List WindowCounts → List CdpWindow
counted_windows domain from [] counts = []
counted_windows domain from (k ∷ ks) [] = []
counted_windows domain from (k ∷ ks) (c ∷ cs) = counted_window domain from k.held c ∷ counted_windows domain from ks cs

-- the entries of a run rise in their epochs
abbrev pub RiseByEpoch : List SliceEntry → Type 0
RiseByEpoch entries = AllPairs (λ (a b : SliceEntry). a.epoch ≤ b.epoch) entries

-- no flush from this place on is of an earlier epoch
abbrev pub ComesBefore : ℕ → ℕ → List SliceEntry → Type 0
ComesBefore epoch from entries = (p : ℕ) (e : SliceEntry) → At entries p e → from ≤ p → e.what ≡ Flush → epoch ≤ e.epoch
