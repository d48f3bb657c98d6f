-- Laws of the windows of a run.
-- (For functions and proofs: no promise of the program stands on it.)
use Rattle.std.specs.Prelude.{◌≡◌, ℕ, ◌<◌, true, List, length}
use Rattle.cache_core.specs.Filled.{empties}
use Rattle.cache_core.specs.declared.entry.SliceEntry.{SliceEntry}
use Rattle.cache_core.specs.declared.entry.What.TheVariants.{Lock}
use Rattle.cbm.specs.Masks.{ways_of}
use Rattle.machine.specs.Slices.{domain_in, slice_count}
use Rattle.private_lru.specs.Covered.{covered_hits, covered_items}
use Rattle.private_lru.specs.Isolation.{IsIsolated, between}
use Rattle.private_lru.specs.Locked.{HoldsLoaded}
use Rattle.pseudo_lock.specs.declared.region.Region.{Region}
use Rattle.rc_base.specs.declared.names.Gid.{Gid}
use Rattle.run_law.specs.Journals.{At, JournalsValue, slice_at}
use Rattle.run_law.specs.Runs.{IsRun}
use Rattle.run_windows.specs.Epochs.{AreSound, state_at}
use Rattle.run_windows.specs.Regions.{HasRegion, IsLockWindow}
use Rattle.run_windows.specs.Windows.{IsExclusive, IsWindow}
use Rattle.script_ops.specs.Values.{IsLawful, ScriptValue}

-- ---- isolation

-- In every window of a run the group is isolated, in a private cache of as many ways as its mask has.
abbrev pub WindowsAreIsolated : Type 0
WindowsAreIsolated =
    (script : ScriptValue) (j : JournalsValue) (i from to : ℕ) (opening : SliceEntry) (group : Gid) (mask last : ℕ)
    → IsLawful script → IsRun script j → IsWindow script j i from to opening group mask last
    → IsIsolated script.machine.sets group.0 (length (ways_of mask)) opening.what (between (slice_at j i) from to)

-- A window by its place: the entries after its opening, and the opening.
pub record IsWindowOf (script : ScriptValue) (j : JournalsValue) (i : ℕ) (group : Gid) (ways : ℕ) (opening : SliceEntry) (window : List SliceEntry) : Type 0 where
  pub from : ℕ
  pub to : ℕ
  pub mask : ℕ
  pub last : ℕ
  pub is : IsWindow script j i from to opening group mask last
  pub holds : window ≡ between (slice_at j i) from to
  pub wide : length (ways_of mask) ≡ ways

-- Two windows of two runs, or of one, on machines with as many sets, of groups with as many ways: where the groups' items in a
-- set up to the last covered access are the same, in order, these accesses have the same hits there, whatever the others did.
abbrev pub WorldsAgree : Type 0
WorldsAgree =
    (script other : ScriptValue) (j k : JournalsValue) (i x : ℕ) (group its_group : Gid) (sets ways set : ℕ) (opening its_opening : SliceEntry) (window its_window : List SliceEntry)
    → IsLawful script → IsRun script j → IsLawful other → IsRun other k → script.machine.sets ≡ sets → other.machine.sets ≡ sets
    → IsWindowOf script j i group ways opening window → IsWindowOf other k x its_group ways its_opening its_window
    → covered_items sets group.0 set opening.what window ≡ covered_items sets its_group.0 set its_opening.what its_window
    → covered_hits sets group.0 set opening.what window ≡ covered_hits sets its_group.0 set its_opening.what its_window

-- ---- windows

-- Each flush or lock begins a window of each group that is exclusive in the state of its epoch.
abbrev pub WindowsExist : Type 0
WindowsExist =
    (script : ScriptValue) (j : JournalsValue) (i from : ℕ) (opening : SliceEntry) (group : Gid) (mask : ℕ)
    → IsLawful script → IsRun script j → i < slice_count script.machine → At (slice_at j i) from opening → empties opening.what ≡ true
    → IsExclusive (domain_in script.machine i) group mask (state_at script j opening.epoch)
    → (to last : ℕ) × IsWindow script j i from to opening group mask last

-- two windows have the same end, last epoch and mask
pub record IsSameWindow (to last mask other_to other_last other_mask : ℕ) : Type 0 where
  pub same_end : to ≡ other_to
  pub same_last : last ≡ other_last
  pub same_mask : mask ≡ other_mask

-- A flush or a lock begins at most one window of a group.
abbrev pub WindowsAreUnique : Type 0
WindowsAreUnique =
    (script : ScriptValue) (j : JournalsValue) (i from to other_to : ℕ) (opening other : SliceEntry) (group : Gid) (mask other_mask last other_last : ℕ)
    → IsWindow script j i from to opening group mask last → IsWindow script j i from other_to other group other_mask other_last
    → IsSameWindow to last mask other_to other_last other_mask

-- ---- regions

-- From the lock of a region on, each access to a line that the lock loaded hits, unless the line was dropped, until the slice
-- is emptied or the region is gone.
abbrev pub RegionsHold : Type 0
RegionsHold =
    (script : ScriptValue) (j : JournalsValue) (i from to : ℕ) (opening : SliceEntry) (r : Region)
    → IsLawful script → IsRun script j → IsLockWindow script j i from to opening r
    → HoldsLoaded script.machine.sets opening.what (between (slice_at j i) from to)

-- Each lock of a run is of the region that its domain has in the state of its epoch, and begins a window of it.
abbrev pub LockWindowsExist : Type 0
LockWindowsExist =
    (script : ScriptValue) (j : JournalsValue) (i from mask first_line : ℕ) (opening : SliceEntry)
    → IsLawful script → IsRun script j → i < slice_count script.machine → At (slice_at j i) from opening → opening.what ≡ Lock mask first_line
    → (to : ℕ) × (r : Region) × HasRegion (domain_in script.machine i) r (state_at script j opening.epoch) × IsLockWindow script j i from to opening r

-- ---- states

-- The state of every epoch of a run is sound.
abbrev pub EpochsAreSound : Type 0
EpochsAreSound = (script : ScriptValue) (j : JournalsValue) → IsLawful script → IsRun script j → AreSound script j
