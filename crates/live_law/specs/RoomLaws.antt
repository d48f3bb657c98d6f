-- How many entries a thread has of its own, and that the quotas of its passes have room for each that it is to make.
-- (For functions and proofs: no promise of the program stands on it.)
use Rattle.std.specs.Prelude.{◌≡◌, ℕ, ◌+◌, ◌<◌, ◌≤◌, List, length, drop, take, Some}
use Rattle.machine.specs.Slices.{slice_count}
use Rattle.run_law.specs.Jobs.{Job, in_slice, jobs_of}
use Rattle.run_law.specs.Journals.{At, JournalsValue}
use Rattle.run_law.specs.Quotas.{commands_of, quota, quotas_of}
use Rattle.run_law.specs.TreeHistory.{IsLegalTree, TreeEntryValue}
use Rattle.script_ops.specs.Values.{IsLawful, ScriptValue, op_at, ops_of}
use Rattle.script_ops.specs.declared.op.Op.{Op}
use Rattle.script_ops.specs.declared.op.Op.TheVariants.{Access}
use Rattle.live_law.specs.Passes.{PassesKeep}
use Rattle.live_law.specs.Room.{HasRoom, commands_from, entries_by, slice_quota, tree_quota}
use Rattle.live_law.specs.Stages.{HoldsTree, IsLooking, slice_reached}

-- what a command makes in a slice, at a position of a legal history, is within its quota
abbrev pub JobsAreFew : Type 0
JobsAreFew =
    (script : ScriptValue) (tree : List TreeEntryValue) (t n i k : ℕ) (c : Op)
    → IsLawful script → IsLegalTree script tree → op_at script t n ≡ Some c → k ≤ length tree
    → length (in_slice i (jobs_of script tree k c)) ≤ quota script.machine i c

-- ---- between two ops

-- a thread's entries in a slice are within the quotas of the ops that it has done
abbrev pub EntriesAreFew : Type 0
EntriesAreFew =
    (script : ScriptValue) (t n i : ℕ) (v : JournalsValue)
    → i < slice_count script.machine → n ≤ length (ops_of script t) → PassesKeep script t n v
    → length (entries_by v i t) ≤ quotas_of script.machine i (take n (ops_of script t))

-- its commands in the tree's history are as many as there are among these ops
abbrev pub CommandsAreCounted : Type 0
CommandsAreCounted =
    (script : ScriptValue) (t n : ℕ) (v : JournalsValue) → n ≤ length (ops_of script t) → PassesKeep script t n v
    → length (commands_from v t) ≡ commands_of (take n (ops_of script t))

-- so there is room for its next op
abbrev pub OpHasRoom : Type 0
OpHasRoom =
    (script : ScriptValue) (t n : ℕ) (c : Op) (v : JournalsValue) → op_at script t n ≡ Some c → PassesKeep script t n v
    → HasRoom script t c v

-- where that is an access, there is room for its entry
abbrev pub AccessHasRoom : Type 0
AccessHasRoom =
    (script : ScriptValue) (t n task cpu addr : ℕ) (v : JournalsValue)
    → IsLawful script → op_at script t n ≡ Some (Access task cpu addr) → PassesKeep script t n v
    → length (entries_by v (slice_reached script.machine cpu addr) t) < slice_quota script (slice_reached script.machine cpu addr) t

-- ---- inside a command

-- there is room for all entries that it has still to make
abbrev pub JobsHaveRoom : Type 0
JobsHaveRoom =
    (script : ScriptValue) (start : JournalsValue) (t n taken k i : ℕ) (c : Op) (made : ℕ) (v : JournalsValue)
    → i < slice_count script.machine → HoldsTree script start t n taken k c made v
    → length (entries_by v i t) + length (in_slice i (drop made (jobs_of script v.tree k c))) ≤ slice_quota script i t

-- so there is room for the next of them, a look or a follow-up
abbrev pub JobHasRoom : Type 0
JobHasRoom =
    (script : ScriptValue) (start : JournalsValue) (t n taken k : ℕ) (c : Op) (made : ℕ) (v : JournalsValue) (job : Job)
    → job.slice < slice_count script.machine → At (jobs_of script v.tree k c) made job → HoldsTree script start t n taken k c made v
    → length (entries_by v job.slice t) < slice_quota script job.slice t

-- until the command is decided there is room for it in the tree's history
abbrev pub CommandHasRoom : Type 0
CommandHasRoom =
    (script : ScriptValue) (start : JournalsValue) (t n : ℕ) (c : Op) (found : List ℕ) (v : JournalsValue)
    → IsLooking script start t n c found v
    → length (commands_from v t) < tree_quota script t
