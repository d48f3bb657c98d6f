-- Which lists of commands with their replies are a legal history of the tree.
use Rattle.std.specs.Prelude.{◌≡◌, ℕ, List, [], ◌∷◌, length, Option, Some, None, IsTrue}
use Rattle.machine.specs.declared.parameters.Parameters.{Parameters}
use Rattle.rc_base.specs.Follows.{EachFollows}
use Rattle.rc_base.specs.declared.replies.Reply.{Reply}
use Rattle.run_law.specs.Ops.{is_command}
use Rattle.script_ops.specs.Values.{ScriptValue, op_at}
use Rattle.script_ops.specs.declared.op.Op.{Op}
use Rattle.tree_law.specs.State.{State, opening}
use Rattle.tree_law.specs.Steps.{next, needs}

-- a command in the tree's journal: the op, its reply, and the counts that it was given
pub record TreeEntryValue : Type 0 where
  pub thread : ℕ
  pub op : ℕ
  pub reply : Reply
  pub looks : List ℕ

-- the state after an op, where there is one
abbrev pub state_after : Parameters → State → List ℕ → Option Op → State
state_after m s looks None = s
state_after m s looks (Some op) = (next m s op looks).state

-- the state after these entries, from a state on
abbrev pub tree_from : ScriptValue → State → List TreeEntryValue → State
tree_from script s [] = s
tree_from script s (e ∷ es) = tree_from script (state_after script.machine s e.looks (op_at script e.thread e.op)) es

-- the state after these entries
unfoldable pub tree_after : ScriptValue → List TreeEntryValue → State
tree_after script entries = tree_from script (opening script.machine script.tasks) entries

-- there is an op, it is a command, and this holds of it
abbrev pub IsCommandThat : (Op → Type 0) → Option Op → Type 0
IsCommandThat P None = ⊥
IsCommandThat P (Some op) = IsTrue (is_command op) × P op

-- an entry that may follow these: its op is a command of the script, it was given as many counts as the command needs, and
-- its reply is the one that the state gives
abbrev pub CommandMayFollow : ScriptValue → List TreeEntryValue → TreeEntryValue → Type 0
CommandMayFollow script before e =
    IsCommandThat
    (λ op. (length e.looks ≡ length (needs script.machine (tree_after script before) op)) × (e.reply ≡ (next script.machine (tree_after script before) op e.looks).reply))
    (op_at script e.thread e.op)

-- the entries are a legal history of the tree
abbrev pub IsLegalTree : ScriptValue → List TreeEntryValue → Type 0
IsLegalTree script entries = EachFollows (CommandMayFollow script) entries
