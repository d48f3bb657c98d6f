-- All windows of a run with code and data prioritization in which their sides use lines.
use Rattle.std.specs.Prelude.{◌≡◌, ℕ, ◌<◌, ◌⊎◌, All, AllPairs, Contains, List, None, length}
use Rattle.cache_core.specs.declared.entry.SliceEntry.{SliceEntry}
use Rattle.cache_core.specs.declared.entry.What.TheVariants.{Flush}
use Rattle.cbm.specs.Masks.{ways_of}
use Rattle.pair_text.specs.Values.{IsLawful, PairScriptValue}
use Rattle.pair_law.specs.CdpRuns.{CdpJournalsValue, IsCdpRun, owner_on}
use Rattle.pair_law.specs.CdpWindows.{IsCdpWindow}
use Rattle.pair_law.specs.Entries.{slice_in}
use Rattle.pair_windows.specs.CdpWindows.{cdp_windows}
use Rattle.pair_windows.specs.declared.cdp_window.CdpWindow.{CdpWindow}
use Rattle.private_lru.specs.Covered.{covered}
use Rattle.private_lru.specs.GroupCounts.{accesses_of, covered_private_hits, hits_of_group}
use Rattle.private_lru.specs.Isolation.{between}

-- The counts of a window of an owner with so many ways, by the entries in it: its accesses, those that hit, the covered ones, those of
-- them that hit, and those that hit in a private cache of as many ways.
pub record AreCdpCounts (sets owner ways : ℕ) (entries : List SliceEntry) (w : CdpWindow) : Type 0 where
  pub ways_is : w.ways ≡ ways
  pub accesses_is : w.accesses ≡ accesses_of owner entries
  pub hits_is : w.hits ≡ hits_of_group owner entries
  pub covered_is : w.covered ≡ length (covered sets owner Flush entries)
  pub covered_hits_is : w.covered_hits ≡ hits_of_group owner (covered sets owner Flush entries)
  pub private_is : w.private ≡ covered_private_hits sets owner ways Flush entries

-- A window of a run, with its place and its counts, in which its side has an access.
pub record IsUsedCdpWindow (script : PairScriptValue) (j : CdpJournalsValue) (w : CdpWindow) : Type 0 where
  pub to : ℕ
  pub opening : SliceEntry
  pub mask : ℕ
  pub last : ℕ
  pub is : IsCdpWindow script j w.domain w.from to opening w.gid w.side mask last
  pub counts : AreCdpCounts script.machines.machine.sets (owner_on w.gid w.side).0 (length (ways_of mask)) (between (slice_in j.slices w.domain) w.from to) w
  pub used : 0 < w.accesses

-- one window comes before another: by domain, then by the position of the flush, and then by owner, that is by group, and of data
-- before code
abbrev pub PrecedesInCdp : CdpWindow → CdpWindow → Type 0
PrecedesInCdp a b =
    (a.domain < b.domain) ⊎ ((a.domain ≡ b.domain) × ((a.from < b.from) ⊎ ((a.from ≡ b.from) × ((owner_on a.gid a.side).0 < (owner_on b.gid b.side).0))))

-- The windows of a run in which the side has an access: each with its counts, every one of them, and each once, in order. In each
-- as many covered accesses hit as in a private cache.
pub record AreCdpWindowsOf (script : PairScriptValue) (j : CdpJournalsValue) (windows : List CdpWindow) : Type 0 where
  pub each : All (IsUsedCdpWindow script j) windows
  pub all : (w : CdpWindow) → IsUsedCdpWindow script j w → Contains windows w
  pub ordered : AllPairs PrecedesInCdp windows
  pub as_private : All (λ (w : CdpWindow). w.covered_hits ≡ w.private) windows

-- (For proofs.) the windows that are listed are those
abbrev pub CdpWindowsAreListed : Type 0
CdpWindowsAreListed =
    (script : PairScriptValue) (j : CdpJournalsValue) → IsLawful script → script.machines.l2 ≡ None → IsCdpRun script j → AreCdpWindowsOf script j (cdp_windows script j)
