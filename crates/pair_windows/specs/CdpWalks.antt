-- The windows of all domains of a run with code and data prioritization, as the commands of a script are taken once.
-- (For functions and proofs: no promise of the program stands on it.)
use Rattle.std.specs.Prelude.{◌≡◌, ℕ, ◌+◌, ◌-◌, ◌<◌, ◌≤◌, ◌==◌, Bool, false, List, drop, length, slice_get, Option, None, Some}
use Rattle.std.specs.List.{flat_map, range_with_len}
use Rattle.cache_core.specs.declared.entry.SliceEntry.{SliceEntry}
use Rattle.cache_core.specs.declared.entry.What.TheVariants.{Flush}
use Rattle.pair_text.specs.Values.{PairScriptValue}
use Rattle.pair_law.specs.CdpRuns.{CdpJournalsValue}
use Rattle.pair_law.specs.Entries.{slice_in}
use Rattle.pair_windows.specs.CdpJournals.{cdp_journals}
use Rattle.pair_windows.specs.CdpWindows.{windows_at, windows_in}
use Rattle.pair_windows.specs.Counted.{ComesBefore}
use Rattle.pair_windows.specs.Fronts.{flush_len, front_len}
use Rattle.pair_windows.specs.PartitionSpans.{kept_from}
use Rattle.pair_windows.specs.declared.cdp_run.CdpRun.{CdpRun}
use Rattle.pair_windows.specs.declared.cdp_walks.CdpWalk.{CdpWalk}
use Rattle.pair_windows.specs.declared.cdp_walks.OpenFlush.{OpenFlush}
use Rattle.pair_windows.specs.declared.cdp_window.CdpWindow.{CdpWindow}
use Rattle.run_law.specs.Journals.{At}

-- the journals of a run
abbrev pub journals_of : CdpRun → CdpJournalsValue
journals_of run = cdp_journals run.replies.now run.slices.now

-- the entries of a domain in them
abbrev pub entries_of_domain : CdpRun → ℕ → List SliceEntry
entries_of_domain run domain = slice_in (journals_of run).slices domain

-- whether an entry is of this epoch, where it is there
abbrev pub is_of : ℕ → Option SliceEntry → Bool
is_of epoch None = false
is_of epoch (Some e) = e.epoch == epoch

-- the windows of a domain with these entries that begin before a place
abbrev pub windows_before : PairScriptValue → ℕ → List SliceEntry → ℕ → List CdpWindow
windows_before script domain entries place = flat_map (λ from. windows_at script domain entries from (slice_get entries from)) (range_with_len 0 place)

-- A flush, up to the next one, and the partitions of its epoch, as they are kept up to a later one, which is not past that of the last
-- entry of a window.
pub record IsOpen (script : PairScriptValue) (entries : List SliceEntry) (domain next : ℕ) (o : OpenFlush) : Type 0 where
  pub flush : (e : SliceEntry) → At entries o.from e → e.what ≡ Flush
  pub begun : (e : SliceEntry) → At entries o.from e → e.epoch ≤ o.until
  pub kept : (e : SliceEntry) → At entries o.from e → o.kept.items ≡ kept_from script domain e.epoch (o.until - e.epoch)
  pub len : o.len ≡ front_len (drop (o.from + 1) entries)
  pub last : (e : SliceEntry) → At entries (o.from + o.len) e → e.epoch ≡ o.last
  pub not_past : o.until ≤ o.last
  pub ends : next ≡ o.from + 1 + flush_len (drop (o.from + 1) entries)

-- A domain at an epoch: the windows that begin before the latest flush that was met are found, or all before the next flush. No flush
-- from the next on is of an epoch before `floor`.
pub record IsWalked (script : PairScriptValue) (entries : List SliceEntry) (epoch floor domain : ℕ) (w : CdpWalk) : Type 0 where
  pub own : w.domain ≡ domain
  pub order : w.latest.from ≤ w.next
  pub within : w.next ≤ length entries
  pub next : (e : SliceEntry) → At entries w.next e → e.what ≡ Flush
  pub opened : w.latest.from < w.next → IsOpen script entries domain w.next w.latest
  pub reached : w.latest.from < w.next → w.latest.until < w.latest.last → w.latest.until ≡ epoch
  pub windows : w.windows.items ≡ windows_before script domain entries w.latest.from
  pub before : ComesBefore floor w.next entries

-- a domain that exists
abbrev pub IsSmall : CdpWalk → Type 0
IsSmall w = w.domain < 8

-- the same of a domain of a run
abbrev pub IsWalkedIn : CdpRun → ℕ → ℕ → ℕ → CdpWalk → Type 0
IsWalkedIn run epoch floor domain w = IsWalked run.script.now (entries_of_domain run domain) epoch floor domain w

-- Whether what is kept of the partitions of a flush is kept for all entries of its windows.
abbrev pub IsComplete : CdpWalk → Type 0
IsComplete w = w.latest.from < w.next → w.latest.until ≡ w.latest.last

-- A domain of which the windows that begin at the latest flush can be counted, where they are not found.
pub record IsClosable (run : CdpRun) (w : CdpWalk) : Type 0 where
  pub exists : w.domain < run.script.now.machines.machine.domains
  pub order : w.latest.from ≤ w.next
  pub within : w.next ≤ length (entries_of_domain run w.domain)
  pub opened : w.latest.from < w.next → IsOpen run.script.now (entries_of_domain run w.domain) w.domain w.next w.latest
  pub complete : IsComplete w

-- All flushes of a domain are met, and what is kept is complete.
pub record IsDone (run : CdpRun) (domain : ℕ) (w : CdpWalk) : Type 0 where
  pub met : length (entries_of_domain run domain) ≤ w.next
  pub complete : w.latest.from < w.next → w.latest.last ≤ w.latest.until

-- A domain at an epoch of which that is so.
pub record IsDoneAt (run : CdpRun) (epoch domain : ℕ) (w : CdpWalk) : Type 0 where
  pub walked : IsWalkedIn run epoch (epoch + 1) domain w
  pub done : IsDone run domain w

-- all windows of a domain are found
abbrev pub HasFoundAll : CdpRun → ℕ → CdpWalk → Type 0
HasFoundAll run domain w = w.windows.items ≡ windows_in run.script.now domain (entries_of_domain run domain)
