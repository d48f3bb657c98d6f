-- What is seen of a tree that is taken through its history once more.
-- (For functions and proofs: no promise of the program stands on it.)
use Rattle.std.specs.Prelude.{ℕ, ◌<◌, ◌≤◌, ◌^◌, ◌≡◌, List, All, Some, length}
use Rattle.tree_core.specs.Named.{AreNamed}
use Rattle.machine.specs.declared.parameters.Parameters.{Parameters}
use Rattle.run_replay.specs.declared.made_group.MadeGroup.{MadeGroup}
use Rattle.run_law.specs.TreeHistory.{IsCommandThat, TreeEntryValue}
use Rattle.script_ops.specs.Canonical.{IsNamed, IsShort}
use Rattle.script_ops.specs.Fits.{Fits}
use Rattle.script_ops.specs.Values.{ScriptValue, op_at}
use Rattle.script_ops.specs.declared.op.Op.{Op}
use Rattle.tree_law.specs.State.{State, tasks_of}
use Rattle.tree_core.specs.Values.{TreeValue}
use Rattle.tree_law.specs.Steps.{needs, next}

-- the names of groups that were made are names of the script
abbrev pub AreKnownGroups : List (List ℕ) → List MadeGroup → Type 0
AreKnownGroups names made = All (λ (m : MadeGroup). m.name.0 < length names) made

-- a tree of the script's machine and tasks, all of whose names are the script's
pub record IsReplay (script : ScriptValue) (t : TreeValue) : Type 0 where
  pub machine : t.machine ≡ script.machine
  pub tasks : tasks_of t.state ≡ script.tasks
  pub named : AreNamed script.names t.state.groups

-- an entry has as many counts as an op needs in this state, and its reply is the state's
pub record IsAnsweredAs (m : Parameters) (s : State) (e : TreeEntryValue) (op : Op) : Type 0 where
  pub looks : length e.looks ≡ length (needs m s op)
  pub reply : e.reply ≡ (next m s op e.looks).reply

-- each count that an entry was given is at most 2 ^ 32
abbrev pub HasFewLooks : TreeEntryValue → Type 0
HasFewLooks e = All (λ n. n ≤ 2 ^ 32) e.looks

-- the op of an entry is a command of the script, and was given as many counts as it needs in this state
abbrev pub IsCounted : ScriptValue → State → TreeEntryValue → Type 0
IsCounted script s e = IsCommandThat (λ op. length e.looks ≡ length (needs script.machine s op)) (op_at script e.thread e.op)

-- the same, and it was answered as this state answers it
abbrev pub IsAnswered : ScriptValue → State → TreeEntryValue → Type 0
IsAnswered script s e = IsCommandThat (IsAnsweredAs script.machine s e) (op_at script e.thread e.op)

-- this is the op of that number in a thread: its names are known and short, and it fits the machine and the tasks
pub record IsOpOf (script : ScriptValue) (thread number : ℕ) (op : Op) : Type 0 where
  pub there : op_at script thread number ≡ Some op
  pub named : IsNamed (length script.names) op
  pub short : IsShort script.names op
  pub fit : Fits script.machine script.tasks op
