-- A tree that is taken through its history anew.
-- (For functions and proofs: no promise of the program stands on it.)
use Rattle.std.specs.Prelude.{◌≡◌, List, length}
use Rattle.machine.specs.declared.parameters.Parameters.{Parameters}
use Rattle.run_law.specs.TreeHistory.{IsLegalTree, TreeEntryValue, tree_after}
use Rattle.script_ops.specs.Values.{ScriptValue}
use Rattle.script_ops.specs.declared.op.Op.{Op}
use Rattle.tree_core.specs.Values.{TreeValue}
use Rattle.tree_law.specs.State.{State}
use Rattle.tree_law.specs.Steps.{needs, next}

-- an entry has as many counts as the op needs in this state, and its reply is the state's
abbrev pub IsAnswer : Parameters → State → Op → TreeEntryValue → Type 0
IsAnswer m s op h = (length h.looks ≡ length (needs m s op)) × (h.reply ≡ (next m s op h.looks).reply)

-- the tree is that of the script after these entries, which are a legal history
pub record IsReplayed (script : ScriptValue) (before : List TreeEntryValue) (t : TreeValue) : Type 0 where
  pub machine : t.machine ≡ script.machine
  pub state : t.state ≡ tree_after script before
  pub epoch : t.epoch ≡ length before
  pub legal : IsLegalTree script before
