-- Whether the touches of commands hit, by the entries of slices.
use Rattle.std.specs.Prelude.{◌≡◌, ℕ, ◌+◌, ◌==◌, ◌&&◌, Bool, true, false, if◌then◌else◌, List, [], ◌∷◌, filter, Option, Some, None, slice_index_or}
use Rattle.std.specs.List.{flat_map}
use Rattle.std.specs.Option.{option_map_or, option_or}
use Rattle.cache_core.specs.declared.entry.SliceEntry.{SliceEntry}
use Rattle.rc_base.specs.declared.replies.Reply.{Reply}
use Rattle.rc_base.specs.declared.replies.Reply.TheVariants.{Ok}
use Rattle.cache_core.specs.Whats.{is_access, is_hit}
use Rattle.run_law.specs.Journals.{At, JournalsValue}
use Rattle.run_law.specs.TreeHistory.{TreeEntryValue}
use Rattle.run_law.specs.Truth.{is_made_by}
use Rattle.script_ops.specs.Values.{ScriptValue, op_at}
use Rattle.script_ops.specs.declared.op.Op.{Op}
use Rattle.script_ops.specs.declared.op.Op.TheVariants.{Touch}

-- the accesses that an op made
abbrev pub accesses_by : JournalsValue → ℕ → ℕ → List SliceEntry
accesses_by j thread op = flat_map (filter (λ (e : SliceEntry). is_made_by thread op e && is_access e.what)) j.slices

-- whether the first of these accesses hit
abbrev pub first_hit : List SliceEntry → Option Bool
first_hit [] = None
first_hit (e ∷ es) = Some (is_hit e.what)

-- (For proofs.) whether an entry is an access that this command made
abbrev pub is_access_by : TreeEntryValue → SliceEntry → Bool
is_access_by h e = is_made_by h.thread h.op e && is_access e.what

-- (For proofs.) whether an entry is the touch of the command at this position of the tree's history, and so has the epoch after it
abbrev pub is_touch_of : ℕ → TreeEntryValue → SliceEntry → Bool
is_touch_of k h e = is_access_by h e && (e.epoch == k + 1)

-- (For proofs.) whether the first access of that command among these entries hit
abbrev pub touch_hit : ℕ → TreeEntryValue → List SliceEntry → Option Bool
touch_hit k h [] = None
touch_hit k h (e ∷ es) = if is_touch_of k h e then Some (is_hit e.what) else touch_hit k h es

-- (For proofs.) whether this is the position k
abbrev pub is_at : ℕ → Option ℕ → Bool
is_at k None = false
is_at k (Some at) = at == k

-- (For proofs.) for each command at its position, new says what old says, or else what these entries say
abbrev pub Notes : List TreeEntryValue → List (Option Bool) → List (Option Bool) → List SliceEntry → Type 0
Notes tree old new entries = (k : ℕ) (h : TreeEntryValue) → At tree k h → slice_index_or new k None ≡ option_or (slice_index_or old k None) (touch_hit k h entries)

-- (For proofs.) `hit` says whether the first access that a command made hit, as the journals tell it; None, where it made none
abbrev pub TellsTouch : JournalsValue → TreeEntryValue → Option Bool → Type 0
TellsTouch j h hit = first_hit (accesses_by j h.thread h.op) ≡ hit

-- (For proofs.) the same for each command, at its position
abbrev pub TellTouches : JournalsValue → List (Option Bool) → Type 0
TellTouches j hits = (k : ℕ) (h : TreeEntryValue) → At j.tree k h → TellsTouch j h (slice_index_or hits k None)

-- (For proofs.) whether an op is a touch that was accepted
abbrev pub is_accepted_touch : Op → Reply → Bool
is_accepted_touch (Touch cpu path task offset) Ok = true
is_accepted_touch op reply = false

-- (For proofs.) whether the op of an entry is a touch that was accepted
abbrev pub is_touch_in : ScriptValue → TreeEntryValue → Bool
is_touch_in script h = option_map_or (λ op. is_accepted_touch op h.reply) (op_at script h.thread h.op) false
