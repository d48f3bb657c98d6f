-- What a run promises to a group that has ways for itself, and to a locked region.
use Rattle.std.specs.Prelude.{◌≡◌, ℕ, ◌<◌, true, length}
use Rattle.cache_core.specs.Filled.{empties}
use Rattle.cache_core.specs.declared.entry.SliceEntry.{SliceEntry}
use Rattle.cache_core.specs.declared.entry.What.TheVariants.{Lock}
use Rattle.cbm.specs.Masks.{ways_of}
use Rattle.machine.specs.Slices.{domain_in, slice_count}
use Rattle.private_lru.specs.Isolation.{IsIsolated, between}
use Rattle.private_lru.specs.Locked.{HoldsLoaded}
use Rattle.pseudo_lock.specs.declared.region.Region.{Region}
use Rattle.rc_base.specs.declared.names.Gid.{Gid}
use Rattle.run_law.specs.Journals.{At, JournalsValue, slice_at}
use Rattle.run_windows.specs.Epochs.{state_at}
use Rattle.run_windows.specs.Regions.{HasRegion, IsLockWindow}
use Rattle.run_windows.specs.Windows.{IsExclusive, IsWindow}
use Rattle.script_ops.specs.Values.{ScriptValue}

-- In each window of the run, from a flush or a lock on and while a group stays exclusive on one mask, its covered accesses hit
-- just where they would in a private cache of as many ways as the mask has.
abbrev pub IsolatesGroups : ScriptValue → JournalsValue → Type 0
IsolatesGroups script run =
    (i from to : ℕ) (opening : SliceEntry) (group : Gid) (mask last : ℕ) → IsWindow script run i from to opening group mask last
    → IsIsolated script.machine.sets group.0 (length (ways_of mask)) opening.what (between (slice_at run i) from to)

-- Each flush and each lock begins a window of each group that is exclusive in the state of its epoch.
abbrev pub BeginsGroupWindows : ScriptValue → JournalsValue → Type 0
BeginsGroupWindows script run =
    (i from mask : ℕ) (opening : SliceEntry) (group : Gid) → i < slice_count script.machine → At (slice_at run i) from opening → empties opening.what ≡ true
    → IsExclusive (domain_in script.machine i) group mask (state_at script run opening.epoch)
    → (to last : ℕ) × IsWindow script run i from to opening group mask last

-- From the lock of a region on, each access to a line that it loaded hits, unless the line was dropped, until the slice is
-- emptied or the region is gone.
abbrev pub HoldsRegions : ScriptValue → JournalsValue → Type 0
HoldsRegions script run =
    (i from to : ℕ) (opening : SliceEntry) (r : Region) → IsLockWindow script run i from to opening r
    → HoldsLoaded script.machine.sets opening.what (between (slice_at run i) from to)

-- Each lock is of the region that its domain has in the state of its epoch, and begins a window in which that region is held.
abbrev pub BeginsLockWindows : ScriptValue → JournalsValue → Type 0
BeginsLockWindows script run =
    (i from mask first_line : ℕ) (opening : SliceEntry) → i < slice_count script.machine → At (slice_at run i) from opening → opening.what ≡ Lock mask first_line
    → (to : ℕ) × (r : Region) × HasRegion (domain_in script.machine i) r (state_at script run opening.epoch) × IsLockWindow script run i from to opening r
