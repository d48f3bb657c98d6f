-- What each command of the tree's history needed, and what followed it.
-- (For functions and proofs: no promise of the program stands on it.)
use Rattle.std.specs.List.{flat_map}
use Rattle.std.specs.Prelude.{◌≡◌, ℕ, ◌+◌, ◌++◌, All, false, IsTrue, List, Some, length, slice_get, take}
use Rattle.journal_check.specs.CheckReplays.{IsAnswer, IsReplayed}
use Rattle.journal_check.specs.declared.trace.Step.{Step}
use Rattle.machine.specs.declared.parameters.Parameters.{Parameters}
use Rattle.run_law.specs.Journals.{At}
use Rattle.cache_core.specs.declared.entry.SliceEntry.{SliceEntry}
use Rattle.cache_core.specs.declared.entry.What.{What}
use Rattle.run_law.specs.Truth.{IsTrueCommand, is_of_access}
use Rattle.run_law.specs.Owed.{Owed, follow_in, is_entered_in, look_in, what_of}
use Rattle.run_law.specs.Ops.{is_command}
use Rattle.run_law.specs.TreeHistory.{TreeEntryValue, tree_after}
use Rattle.script_ops.specs.Values.{ScriptValue, op_at}
use Rattle.script_ops.specs.declared.op.Op.{Op}
use Rattle.tree_law.specs.LawsCounts.{CanLook}
use Rattle.tree_core.specs.Values.{TreeValue}
use Rattle.tree_law.specs.Steps.{after, needs, next}
use Rattle.tree_law.specs.declared.follow.Follow.{Follow}

-- a tree has taken a command: it was given as many counts as it needs and answered as the tree answers it, and this is what it
-- needed and what followed it
pub record Takes (old new : TreeValue) (op : Op) (h : TreeEntryValue) (step : Step) : Type 0 where
  pub answer : IsAnswer old.machine old.state op h
  pub machine : new.machine ≡ old.machine
  pub state : new.state ≡ (next old.machine old.state op h.looks).state
  pub epoch : new.epoch ≡ old.epoch + 1
  pub needs : step.needs ≡ needs old.machine old.state op
  pub exist : All (CanLook old.machine) step.needs
  pub follows : step.follows.items ≡ after old.machine old.state old.epoch op

-- a tree has taken an op, which is a command
abbrev pub TakesCommand : TreeValue → TreeValue → Op → TreeEntryValue → Step → Type 0
TakesCommand old new op h step = IsTrue (is_command op) × Takes old new op h step

-- this is what the op of a command at this position needed, and what followed it
pub record IsStepOf (script : ScriptValue) (tree : List TreeEntryValue) (k : ℕ) (op : Op) (step : Step) : Type 0 where
  pub needs : step.needs ≡ needs script.machine (tree_after script (take k tree)) op
  pub exist : All (CanLook script.machine) step.needs
  pub follows : step.follows.items ≡ after script.machine (tree_after script (take k tree)) k op

-- the same of the first n commands, which are so many steps
pub record IsTrace (script : ScriptValue) (tree : List TreeEntryValue) (n : ℕ) (steps : List Step) : Type 0 where
  pub count : length steps ≡ n
  pub each : (k : ℕ) (h : TreeEntryValue) (op : Op) (step : Step) → At tree k h → op_at script h.thread h.op ≡ Some op → At steps k step → IsStepOf script tree k op step

-- a tree that had taken the entries before this position has taken the one there, and this is what it needed and what followed it
pub record TakesEntry (script : ScriptValue) (tree : List TreeEntryValue) (k : ℕ) (new : TreeValue) (step : Step) : Type 0 where
  pub replayed : IsReplayed script (take (k + 1) tree) new
  pub told : (h : TreeEntryValue) (op : Op) → At tree k h → op_at script h.thread h.op ≡ Some op → IsStepOf script tree k op step

-- what a command at position k owes to slice i, by what it needed and what followed it
abbrev pub owed_by_step : Parameters → ℕ → ℕ → Step → List Owed
owed_by_step m i k step = flat_map (look_in m i k) step.needs ++ flat_map (follow_in m i (k + 1)) step.follows.items

-- one of these follow-ups enters this content in slice i
abbrev pub HasFollow : Parameters → ℕ → List Follow → What → Type 0
HasFollow m i follows what = (k : ℕ) × (f : Follow) × (slice_get follows k ≡ Some f) × IsTrue (is_entered_in m i f) × (what_of f ≡ what)

-- an entry of slice i that is no access of an access is one that its command owes, where it is of an op of the script
abbrev pub IsTrueOther : ScriptValue → List TreeEntryValue → ℕ → SliceEntry → Type 0
IsTrueOther script tree i e = (op : Op) → op_at script e.thread e.op ≡ Some op → is_of_access op e.what ≡ false → IsTrueCommand script tree i e op

-- each of these entries is
abbrev pub AreTrueOthers : ScriptValue → List TreeEntryValue → ℕ → List SliceEntry → Type 0
AreTrueOthers script tree i entries = (p : ℕ) (e : SliceEntry) → At entries p e → IsTrueOther script tree i e
