-- The windows in which a group has the ways of one side's mask for itself.
use Rattle.std.specs.Prelude.{◌≡◌, ℕ, ◌<◌, ◌≤◌, ◌⊎◌, true, false, IfSome, IsSomeAnd, length, slice_get}
use Rattle.cache_core.specs.Filled.{empties}
use Rattle.cache_core.specs.declared.entry.SliceEntry.{SliceEntry}
use Rattle.cache_core.specs.declared.entry.What.TheVariants.{Flush}
use Rattle.cbm.specs.Masks.{overlaps}
use Rattle.pair_law.specs.Epochs.{state_at}
use Rattle.pair_law.specs.State.{PairState, group_of, mask_in}
use Rattle.pair_text.specs.Values.{PairScriptValue, commands_of}
use Rattle.pair_text.specs.declared.side.Side.{Side}
use Rattle.pair_text.specs.declared.side.Side.TheVariants.{First, Second}
use Rattle.pair_law.specs.CdpRuns.{CdpJournalsValue}
use Rattle.pair_law.specs.Entries.{slice_in}
use Rattle.run_law.specs.Journals.{At}
use Rattle.rc_base.specs.declared.names.Gid.{Gid}
use Rattle.rc_base.specs.declared.names.Mode.TheVariants.{Exclusive}
use Rattle.private_lru.specs.Spans.{IsSpan}

abbrev pub other_side : Side → Side
other_side First = Second
other_side Second = First

-- the group is exclusive, has this mask on a side of a domain, and its mask on the other side does not meet it
abbrev pub IsAlone : ℕ → Gid → Side → ℕ → PairState → Type 0
IsAlone domain group side mask s =
    IsSomeAnd (group_of s group) (λ g. (g.mode ≡ Exclusive) × (mask_in side domain g ≡ mask) × (overlaps mask (mask_in (other_side side) domain g) ≡ false))

-- from the first of these epochs to the last it stays so, and no longer
abbrev pub StaysAlone : PairScriptValue → ℕ → Gid → Side → ℕ → ℕ → ℕ → Type 0
StaysAlone script domain group side mask first last = IsSpan (λ epoch. IsAlone domain group side mask (state_at script epoch)) first (length (commands_of script)) last

-- A window in a domain: it begins after the flush at `from`, and holds the entries up to and without that at `to`, the first that
-- is a flush or of a later epoch than the last, or all where none is.
pub record IsCdpWindow (script : PairScriptValue) (j : CdpJournalsValue) (domain from to : ℕ) (opening : SliceEntry) (group : Gid) (side : Side) (mask last : ℕ) : Type 0 where
  pub domain_exists : domain < script.machines.machine.domains
  pub opens : At (slice_in j.slices domain) from opening
  pub flush : opening.what ≡ Flush
  pub alone : StaysAlone script domain group side mask opening.epoch last
  pub after_opening : from < to
  pub within : to ≤ length (slice_in j.slices domain)
  pub goes_over : (p : ℕ) (e : SliceEntry) → At (slice_in j.slices domain) p e → from < p → p < to → (empties e.what ≡ false) × (e.epoch ≤ last)
  pub ends : IfSome (slice_get (slice_in j.slices domain) to) (λ e. (empties e.what ≡ true) ⊎ (last < e.epoch))
