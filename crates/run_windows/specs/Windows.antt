-- The windows of a slice in which a group has its ways for itself, read off the journals of a run.
use Rattle.std.specs.Prelude.{◌≡◌, ℕ, Bool, ◌||◌, nat_lt, ◌<◌, ◌≤◌, ◌⊎◌, true, false, IfSome, IsSomeAnd, length, slice_get}
use Rattle.cache_core.specs.Filled.{empties}
use Rattle.cache_core.specs.declared.entry.SliceEntry.{SliceEntry}
use Rattle.group_tree.specs.Records.{has_mode, mask_in}
use Rattle.machine.specs.Slices.{domain_in, slice_count}
use Rattle.rc_base.specs.declared.names.Gid.{Gid}
use Rattle.rc_base.specs.declared.names.Mode.TheVariants.{Exclusive}
use Rattle.run_law.specs.Journals.{At, JournalsValue, slice_at}
use Rattle.run_windows.specs.Epochs.{state_at}
use Rattle.script_ops.specs.Values.{ScriptValue}
use Rattle.private_lru.specs.Spans.{IsSpan}
use Rattle.tree_law.specs.Existing.{group_of}
use Rattle.tree_law.specs.State.{State}

-- ---- exclusive groups

-- the group is an exclusive control group, with this mask in the domain
abbrev pub IsExclusive : ℕ → Gid → ℕ → State → Type 0
IsExclusive domain group mask s = IsSomeAnd (group_of s group) (λ g. (has_mode Exclusive g ≡ true) × (mask_in domain g ≡ mask))

-- from the first of these epochs to the last the group stays exclusive with this mask in the domain, and no longer
abbrev pub StaysExclusive : ScriptValue → JournalsValue → ℕ → Gid → ℕ → ℕ → ℕ → Type 0
StaysExclusive script j domain group mask first last = IsSpan (λ epoch. IsExclusive domain group mask (state_at script j epoch)) first (length j.tree) last

-- ---- windows

-- an entry over which a window goes on, where the group stays exclusive up to the epoch `last`
abbrev pub GoesOver : ℕ → SliceEntry → Type 0
GoesOver last e = (empties e.what ≡ false) × (e.epoch ≤ last)

-- an entry that ends such a window
abbrev pub Ends : ℕ → SliceEntry → Type 0
Ends last e = (empties e.what ≡ true) ⊎ (last < e.epoch)

-- (For proofs.) whether an entry ends such a window
abbrev pub ends_window : ℕ → SliceEntry → Bool
ends_window last e = empties e.what || nat_lt last e.epoch

-- A window of a group in slice i: it begins after the entry at `from`, a flush or a lock, and holds the entries up to, but not
-- including, the one at `to`, the first that ends it; all of them where none does.
pub record IsWindow (script : ScriptValue) (j : JournalsValue) (i from to : ℕ) (opening : SliceEntry) (group : Gid) (mask last : ℕ) : Type 0 where
  pub slice_exists : i < slice_count script.machine
  pub opens : At (slice_at j i) from opening
  pub empty : empties opening.what ≡ true
  pub exclusive : StaysExclusive script j (domain_in script.machine i) group mask opening.epoch last
  pub after_opening : from < to
  pub within : to ≤ length (slice_at j i)
  pub goes_over : (p : ℕ) (e : SliceEntry) → At (slice_at j i) p e → from < p → p < to → GoesOver last e
  pub ends : IfSome (slice_get (slice_at j i) to) (Ends last)
