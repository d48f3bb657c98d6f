-- The control groups of a tree have names that commands of the script gave them.
use Rattle.std.proofs.Common.{◌≡◌, ℕ, List, [], ◌∷◌, refl, Option, Some, None}
use Rattle.machine.specs.declared.parameters.Parameters.{Parameters}
use Rattle.path_names.specs.declared.dirs.DirRef.TheVariants.{Ctrl}
use Rattle.path_names.specs.declared.files.FileKind.TheVariants as kinds
use Rattle.path_names.specs.declared.names.NameId.{NameId}
use Rattle.path_names.specs.declared.path_ref.PathRef.TheVariants.{Dir, File}
use Rattle.rc_base.specs.declared.replies.Reply.{Reply}
use Rattle.script_ops.specs.declared.op.Op.{Op}
use Rattle.script_ops.specs.declared.op.Op.TheVariants as ops
use Rattle.tree_law.specs.Places.{group_at}
use Rattle.tree_law.specs.Refusals.{Refusal, reply_of}
use Rattle.tree_law.specs.State.{State, opening}
use Rattle.tree_law.specs.Steps.{accepted, left, next, next_if, refusal, with_status}
use Rattle.tree_law.specs.commands.Tasks as tasks
use Rattle.tree_law.specs.commands.Tick as tick
use Rattle.tree_law.specs.commands.Write as write
use Rattle.run_law.specs.TreeHistory.{TreeEntryValue, state_after, tree_after, tree_from}
use Rattle.script_ops.specs.Values.{ScriptValue, op_at}
use Rattle.plan_reading.specs.GroupWrites.{IsMadeDir}
use Rattle.plan_reading.proofs.MadeByCommands.{AreMade, Makes, AreMade-opening, AreMade-mkdir, AreMade-rmdir, AreMade-tasks, AreMade-option_map_or, AreMade-write}

module _ (P : NameId → Type 0) where
  -- after any command that is accepted
  AreMade-accepted : (m : Parameters) (s : State) (op : Op) (looks : List ℕ) → Makes P op → AreMade P s.groups → AreMade P (accepted m s op looks).groups
  unfolding tick.accepted
  AreMade-accepted m s (ops.Mkdir path) looks makes named = AreMade-mkdir P m s path makes named
  AreMade-accepted m s (ops.Rmdir path) looks makes named = AreMade-rmdir P m s path looks named
  AreMade-accepted m s (ops.Write path text) looks makes named = AreMade-write P m s path text looks named
  AreMade-accepted m s op looks makes named = named

  -- after any command that is refused
  AreMade-left : (s : State) (op : Op) → AreMade P s.groups → AreMade P (left s op).groups
  unfolding write.refused
  AreMade-left s (ops.Write (File dir kinds.Tasks) text) named = AreMade-option_map_or P s (group_at s dir) (λ g. tasks.kept s g text) (λ g is. (AreMade-tasks P) s g text named) named
  AreMade-left s (ops.Write path text) named = named
  AreMade-left s op named = named

  -- with another last status
  AreMade-with_status : (s : State) (op : Op) (reply : Reply) → AreMade P s.groups → AreMade P (with_status op reply s).groups
  AreMade-with_status s (ops.Mkdir path) reply named = named
  AreMade-with_status s (ops.Write path text) reply named = named
  AreMade-with_status s op reply named = named

  -- after a command
  AreMade-next : (m : Parameters) (s : State) (op : Op) (looks : List ℕ) → Makes P op → AreMade P s.groups → AreMade P (next m s op looks).state.groups
  unfolding next
  AreMade-next m s op looks makes named = AreMade-with_status (next_if m s op looks (refusal m s op)) op (reply_of (refusal m s op)) (at (refusal m s op))
    where
      at : (against : Option Refusal) → AreMade P (next_if m s op looks against).groups
      at None = AreMade-accepted m s op looks makes named
      at (Some r) = AreMade-left s op named

-- ---- the groups of a script

-- a group that a command of the script makes
abbrev pub IsMadeName : ScriptValue → NameId → Type 0
IsMadeName script name = IsMadeDir script (Ctrl name)

-- a command of the script makes such a group
Makes-op_at : (script : ScriptValue) (thread k : ℕ) (op : Op) → op_at script thread k ≡ Some op → Makes (IsMadeName script) op
Makes-op_at script thread k (ops.Mkdir (Dir (Ctrl name))) is = (thread, k, is)
Makes-op_at script thread k op is = tt

-- the groups after the commands of a history
AreMade-tree_from : (script : ScriptValue) (s : State) (es : List TreeEntryValue) → AreMade (IsMadeName script) s.groups → AreMade (IsMadeName script) (tree_from script s es).groups
AreMade-tree_from script s [] made = made
AreMade-tree_from script s (e ∷ es) made = AreMade-tree_from script (state_after script.machine s e.looks (op_at script e.thread e.op)) es (at (op_at script e.thread e.op) refl)
  where
    at : (o : Option Op) → op_at script e.thread e.op ≡ o → AreMade (IsMadeName script) (state_after script.machine s e.looks o).groups
    at None is = made
    at (Some op) is = AreMade-next (IsMadeName script) script.machine s op e.looks (Makes-op_at script e.thread e.op op is) made

-- the same from the opening state on
pub AreMade-tree_after : (script : ScriptValue) (es : List TreeEntryValue) → AreMade (IsMadeName script) (tree_after script es).groups
unfolding tree_after
AreMade-tree_after script es = AreMade-tree_from script (opening script.machine script.tasks) es (AreMade-opening (IsMadeName script) script.machine script.tasks)
