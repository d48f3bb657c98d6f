-- What an op owes to a slice: the entries that must stand there.
use Rattle.std.specs.Prelude.{ℕ, ◌+◌, Bool, false, ◌==◌, if◌then◌else◌, List, [], ◌∷◌, ◌++◌, None, take}
use Rattle.std.specs.List.{flat_map}
use Rattle.cache_core.specs.declared.entry.SliceEntry.{SliceEntry}
use Rattle.cache_core.specs.declared.entry.What.{What}
use Rattle.cache_core.specs.declared.entry.What.TheVariants as whats
use Rattle.machine.specs.declared.parameters.Parameters.{Parameters}
use Rattle.machine.specs.Slices.{domain_in, slice_of_line}
use Rattle.machine.specs.Maps.{line_of}
use Rattle.run_law.specs.TreeHistory.{TreeEntryValue, tree_after}
use Rattle.script_ops.specs.Values.{ScriptValue}
use Rattle.script_ops.specs.declared.op.Op.{Op}
use Rattle.tree_law.specs.Resolving.{resolve}
use Rattle.tree_law.specs.Steps.{Target, EachSlice, SliceOf, after, goes_to, needs}
use Rattle.tree_law.specs.declared.follow.Follow.{Follow}
use Rattle.tree_law.specs.declared.follow.Follow.TheVariants as follows

-- an entry but for what the slice itself decides: the hit and the way of an access, the number of a look, and the way of a drop
abbrev pub undecided : What → What
undecided (whats.Access hit way owner rmid mask line) = whats.Access false 0 owner rmid mask line
undecided whats.Raise = whats.Raise
undecided whats.Flush = whats.Flush
undecided (whats.Lock mask first_line) = whats.Lock mask first_line
undecided (whats.Look rmid lines) = whats.Look rmid 0
undecided (whats.Drop line at) = whats.Drop line None

-- an entry that an op owes to a slice
pub record Owed : Type 0 where
  pub epoch : ℕ
  pub what : What

-- what an entry pays
abbrev pub paid_by : SliceEntry → Owed
paid_by e = record { epoch = e.epoch; what = undecided e.what }

-- the look that a count needs in a slice
abbrev pub look_in : Parameters → ℕ → ℕ → ℕ × ℕ → List Owed
look_in m i epoch need = if need.0 == domain_in m i then record { epoch = epoch; what = whats.Look need.1 0 } ∷ [] else []

-- ---- follow-ups

-- what a follow-up enters in a slice; a touch enters an access with the owner, the RMID and the mask of its tag
abbrev pub what_of : Follow → What
what_of (follows.Raise domain) = whats.Raise
what_of (follows.Flush domain) = whats.Flush
what_of (follows.Lock domain mask first_line) = whats.Lock mask first_line
what_of (follows.Touch tag line) = whats.Access false 0 tag.owner tag.rmid tag.mask line
what_of (follows.Drop domain line) = whats.Drop line None

-- whether slice i is one of a target's
abbrev pub is_target : Parameters → ℕ → Target → Bool
is_target m i (EachSlice domain) = domain == domain_in m i
is_target m i (SliceOf domain line) = slice_of_line m domain line == i

-- whether a follow-up is entered in slice i
abbrev pub is_entered_in : Parameters → ℕ → Follow → Bool
is_entered_in m i f = is_target m i (goes_to f)

-- the entry of a follow-up in a slice, one or none
abbrev pub follow_in : Parameters → ℕ → ℕ → Follow → List Owed
follow_in m i epoch f = if is_entered_in m i f then record { epoch = epoch; what = what_of f } ∷ [] else []

-- ---- ops

-- What a command at position k of the tree's history owes to a slice: a look of epoch k for each count that it needs there,
-- and then its follow-ups there, of epoch k + 1.
unfoldable pub owed_by_command : ScriptValue → List TreeEntryValue → ℕ → ℕ → Op → List Owed
owed_by_command script tree i k op =
    let m = script.machine in
    let s = tree_after script (take k tree) in
    flat_map (look_in m i k) (needs m s op) ++ flat_map (follow_in m i (k + 1)) (after m s k op)

-- What an access of this epoch owes: the owner, the RMID and the mask that the tree of that epoch gives to its task and CPU,
-- and the line of its address.
unfoldable pub owed_by_access : ScriptValue → List TreeEntryValue → ℕ → ℕ → ℕ → ℕ → Owed
owed_by_access script tree epoch task cpu addr =
    let owned = resolve script.machine (tree_after script (take epoch tree)) task cpu in
    record { epoch = epoch; what = whats.Access false 0 owned.owner owned.rmid owned.mask (line_of addr) }
