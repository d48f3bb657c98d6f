-- How long a locked region holds its lines, read off the journals of a run.
use Rattle.std.specs.Prelude.{◌≡◌, ℕ, ◌<◌, ◌≤◌, ◌⊎◌, true, false, IfSome, Some, length, slice_get}
use Rattle.cache_core.specs.Filled.{empties}
use Rattle.cache_core.specs.declared.entry.SliceEntry.{SliceEntry}
use Rattle.cache_core.specs.declared.entry.What.TheVariants.{Lock}
use Rattle.machine.specs.Slices.{domain_in, slice_count}
use Rattle.pseudo_lock.specs.declared.region.Region.{Region}
use Rattle.run_law.specs.Journals.{At, JournalsValue, slice_at}
use Rattle.run_windows.specs.Epochs.{state_at}
use Rattle.script_ops.specs.Values.{ScriptValue}
use Rattle.tree_law.specs.State.{State}

-- the region is the domain's in a state
abbrev pub HasRegion : ℕ → Region → State → Type 0
HasRegion domain r s = slice_get s.regions domain ≡ Some (Some r)

-- From the lock of a region at `from` up to, but not including, the entry at `to`: the first that is a flush or a lock, or has an
-- epoch in whose state the region is gone. Where no entry does, `to` is the end.
pub record IsLockWindow (script : ScriptValue) (j : JournalsValue) (i from to : ℕ) (opening : SliceEntry) (r : Region) : Type 0 where
  pub slice_exists : i < slice_count script.machine
  pub opens : At (slice_at j i) from opening
  pub locks : opening.what ≡ Lock r.mask r.first_line
  pub after_opening : from < to
  pub within : to ≤ length (slice_at j i)
  pub goes_over :
      (p : ℕ) (e : SliceEntry) → At (slice_at j i) p e → from < p → p < to
      → (empties e.what ≡ false) × HasRegion (domain_in script.machine i) r (state_at script j e.epoch)
  pub ends : IfSome (slice_get (slice_at j i) to) (λ e. (empties e.what ≡ true) ⊎ (HasRegion (domain_in script.machine i) r (state_at script j e.epoch) → ⊥))
