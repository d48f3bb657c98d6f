-- How far a tree was taken through the commands of a run, and what a read gives then.
use Rattle.std.specs.Prelude.{◌≡◌, ℕ, ◌≤◌, if◌then◌else◌, List, All, length, take, Option, Some, None}
use Rattle.file_view.specs.Texts.{is_reading, text_of}
use Rattle.rc_base.specs.declared.replies.Reply.{Reply}
use Rattle.rc_base.specs.declared.replies.Reply.TheVariants as replies
use Rattle.run_replay.specs.Replayed.{HasFewLooks, IsReplay}
use Rattle.run_law.specs.TreeHistory.{IsLegalTree, TreeEntryValue, tree_from}
use Rattle.script_ops.specs.Values.{ScriptValue, op_at}
use Rattle.script_ops.specs.declared.limits.TheConstants.{MOST_WEIGHT}
use Rattle.script_ops.specs.declared.op.Op.{Op}
use Rattle.tree_core.specs.Values.{TreeValue}
use Rattle.tree_law.specs.State.{State, opening}

-- (For proofs.) the state of the tree before the command at a position
abbrev pub state_before : ScriptValue → List TreeEntryValue → ℕ → State
state_before script tree position = tree_from script (opening script.machine script.tasks) (take position tree)

-- (For proofs.) The tree has taken the first commands of a legal history, as many as its epoch says. The history has no more
-- commands than a script may have.
pub record HasTaken (script : ScriptValue) (tree : List TreeEntryValue) (t : TreeValue) : Type 0 where
  pub legal : IsLegalTree script tree
  pub few : length tree ≤ MOST_WEIGHT
  pub counts : All HasFewLooks tree
  pub replay : IsReplay script t
  pub state : t.state ≡ state_before script tree t.epoch

-- (For proofs.) the same, and not the command at this position
pub record HasTakenBefore (script : ScriptValue) (tree : List TreeEntryValue) (position : ℕ) (t : TreeValue) : Type 0 where
  pub taken : HasTaken script tree t
  pub before : t.epoch ≤ position

-- the text that an accepted read or list gives in this state, by its op; no other command gives one
abbrev pub given_by : ScriptValue → State → List ℕ → Reply → Option Op → Option (List ℕ)
given_by script s looks replies.Ok (Some op) = if is_reading op then Some (text_of script.machine s script.names op looks) else None
given_by script s looks reply op = None

-- the text that the command of an entry gives in this state
abbrev pub given : ScriptValue → State → TreeEntryValue → Option (List ℕ)
given script s h = given_by script s h.looks h.reply (op_at script h.thread h.op)
