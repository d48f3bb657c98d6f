-- What a thread has of its own in the journals, and the room that its passes have for more.
-- (For functions and proofs: no promise of the program stands on it.)
use Rattle.std.specs.Prelude.{ℕ, ◌+◌, ◌<◌, ◌≤◌, List, length, filter}
use Rattle.cache_core.specs.declared.entry.SliceEntry.{SliceEntry}
use Rattle.lists.specs.Sums.{one_if}
use Rattle.machine.specs.Slices.{slice_count}
use Rattle.run_law.specs.Journals.{JournalsValue, slice_at}
use Rattle.run_law.specs.Ops.{is_command}
use Rattle.run_law.specs.Quotas.{commands_of, quota, quotas_of}
use Rattle.run_law.specs.TreeHistory.{TreeEntryValue}
use Rattle.script_ops.specs.Values.{ScriptValue, ops_of}
use Rattle.script_ops.specs.declared.op.Op.{Op}
use Rattle.live_law.specs.SeenJournals.{is_by, is_from}

-- the entries of thread t in slice i
abbrev pub entries_by : JournalsValue → ℕ → ℕ → List SliceEntry
entries_by v i t = filter (is_by t) (slice_at v i)

-- the commands of thread t in the tree's history
abbrev pub commands_from : JournalsValue → ℕ → List TreeEntryValue
commands_from v t = filter (is_from t) v.tree

-- the quota of a thread's pass of slice i: the quotas of all its ops
abbrev pub slice_quota : ScriptValue → ℕ → ℕ → ℕ
slice_quota script i t = quotas_of script.machine i (ops_of script t)

-- the quota of a thread's pass of the tree: as many entries as it has commands
abbrev pub tree_quota : ScriptValue → ℕ → ℕ
tree_quota script t = commands_of (ops_of script t)

-- The passes of a thread have room for an op: in each slice for the most entries that it can make there, and for a command in the
-- tree's history.
pub record HasRoom (script : ScriptValue) (t : ℕ) (c : Op) (v : JournalsValue) : Type 0 where
  pub entries :
      (i : ℕ) → i < slice_count script.machine
      → length (entries_by v i t) + quota script.machine i c ≤ slice_quota script i t
  pub commands : length (commands_from v t) + one_if (is_command c) ≤ tree_quota script t
