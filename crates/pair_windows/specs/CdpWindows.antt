-- The windows of a run with code and data prioritization in which a side of a group uses lines, each with its counts.
use Rattle.std.specs.Prelude.{ℕ, ◌+◌, Bool, ◌||◌, nat_lt, List, [], drop, filter, length, map, slice_get, take, Option, Some, None}
use Rattle.std.specs.List.{flat_map, position_or_len, range_with_len}
use Rattle.cache_core.specs.Filled.{empties}
use Rattle.cache_core.specs.declared.entry.SliceEntry.{SliceEntry}
use Rattle.cache_core.specs.declared.entry.What.{What}
use Rattle.cache_core.specs.declared.entry.What.TheVariants.{Flush}
use Rattle.cbm.specs.Masks.{ways_of}
use Rattle.pair_law.specs.Epochs.{state_at}
use Rattle.pair_text.specs.Values.{PairScriptValue}
use Rattle.pair_law.specs.CdpRuns.{CdpJournalsValue, owner_on}
use Rattle.pair_law.specs.Entries.{slice_in}
use Rattle.pair_windows.specs.Partitions.{last_epoch, partitions_in}
use Rattle.pair_windows.specs.declared.cdp_window.CdpWindow.{CdpWindow}
use Rattle.pair_windows.specs.declared.partition.Partition.{Partition}
use Rattle.private_lru.specs.Covered.{covered}
use Rattle.private_lru.specs.GroupCounts.{accesses_of, covered_private_hits, hits_of_group}

-- whether an entry ends a window of a partition that is kept up to this epoch
abbrev pub ends_window : ℕ → SliceEntry → Bool
ends_window last e = empties e.what || nat_lt last e.epoch

-- these entries up to the first that ends such a window
abbrev pub window_front : ℕ → List SliceEntry → List SliceEntry
window_front last entries = take (position_or_len (ends_window last) entries) entries

-- the owner that stands for the side of a partition's group in the entries
abbrev pub owner_of_partition : Partition → ℕ
owner_of_partition p = (owner_on p.gid p.side).0

-- The window of a partition that begins at the flush at `from`, with these entries: the accesses of its side, those that hit, the covered
-- ones, those of them that hit, and those that hit in a private cache of as many ways.
abbrev pub window_of : ℕ → ℕ → ℕ → Partition → List SliceEntry → CdpWindow
window_of sets domain from p entries = record {
  domain = domain;
  gid = p.gid;
  side = p.side;
  ways = length (ways_of p.mask);
  from = from;
  accesses = accesses_of (owner_of_partition p) entries;
  hits = hits_of_group (owner_of_partition p) entries;
  covered = length (covered sets (owner_of_partition p) Flush entries);
  covered_hits = hits_of_group (owner_of_partition p) (covered sets (owner_of_partition p) Flush entries);
  private = covered_private_hits sets (owner_of_partition p) (length (ways_of p.mask)) Flush entries;
}

-- whether the side of a window uses a line in it
abbrev pub is_used : CdpWindow → Bool
is_used w = nat_lt 0 w.accesses

module _ (script : PairScriptValue) (domain : ℕ) (entries : List SliceEntry) where
  -- the window of a partition that begins at the flush at `from`, whose epoch this is
  abbrev pub window_from : ℕ → ℕ → Partition → CdpWindow
  window_from from epoch p = window_of script.machines.machine.sets domain from p (window_front (last_epoch script domain p epoch) (drop (from + 1) entries))

  -- those of all partitions of that epoch that use lines
  abbrev pub windows_from : ℕ → ℕ → List CdpWindow
  windows_from from epoch = filter is_used (map (window_from from epoch) (partitions_in domain (state_at script epoch)))

  -- a flush begins windows, and nothing else does
  abbrev pub windows_by : ℕ → ℕ → What → List CdpWindow
  windows_by from epoch Flush = windows_from from epoch
  windows_by from epoch what = []

  -- the windows that begin at an entry, where there is one
  abbrev pub windows_at : ℕ → Option SliceEntry → List CdpWindow
  windows_at from None = []
  windows_at from (Some e) = windows_by from e.epoch e.what

  -- the windows of a domain, with its entries: by the place of the flush, then by group, and of data before code
  abbrev pub windows_in : List CdpWindow
  windows_in = flat_map (λ from. windows_at from (slice_get entries from)) (range_with_len 0 (length entries))

-- the windows of a run, by domain
abbrev pub cdp_windows : PairScriptValue → CdpJournalsValue → List CdpWindow
cdp_windows script j = flat_map (λ domain. windows_in script domain (slice_in j.slices domain)) (range_with_len 0 script.machines.machine.domains)
