-- The control groups that ever were.
use Rattle.std.specs.Prelude.{ℕ, List, [], ◌∷◌, ◌++◌, map, codes, Option, Some}
use Rattle.path_names.specs.declared.dirs.DirRef.TheVariants.{Ctrl}
use Rattle.path_names.specs.declared.path_ref.PathRef.TheVariants.{Dir}
use Rattle.rc_base.specs.declared.replies.Reply.{Reply}
use Rattle.rc_base.specs.declared.replies.Reply.TheVariants as replies
use Rattle.run_replay.specs.declared.made_group.MadeGroup.{MadeGroup}
use Rattle.run_law.specs.TreeHistory.{TreeEntryValue, state_after}
use Rattle.path_names.specs.PathTexts.{path_text}
use Rattle.script_ops.specs.Values.{ScriptValue, op_at}
use Rattle.script_ops.specs.declared.op.Op.{Op}
use Rattle.script_ops.specs.declared.op.Op.TheVariants.{Mkdir}
use Rattle.tree_law.specs.State.{State, opening}

-- the control group that an accepted mkdir makes in a state
abbrev pub made_by : State → Option Op → Reply → List MadeGroup
made_by s (Some (Mkdir (Dir (Ctrl name)))) replies.Ok = record { gid = s.next_gid; name = name } ∷ []
made_by s op reply = []

-- the control groups that these commands made, from a state on
abbrev pub made_from : ScriptValue → State → List TreeEntryValue → List MadeGroup
made_from script s [] = []
made_from script s (h ∷ hs) =
    made_by s (op_at script h.thread h.op) h.reply ++ made_from script (state_after script.machine s h.looks (op_at script h.thread h.op)) hs

-- a control group that ever was, by its gid and its path
pub record Control : Type 0 where
  pub gid : ℕ
  pub path : List ℕ

-- a group that was made, with the path of its directory for its name
abbrev pub control_of : List (List ℕ) → MadeGroup → Control
control_of names made = record { gid = made.gid; path = path_text names (Dir (Ctrl made.name)) }

-- the default group
abbrev pub default_control : Control
default_control = record { gid = 0; path = codes "/" }

-- the default group, and those that were made, in order of creation and so of their gids
abbrev pub controls : ScriptValue → List TreeEntryValue → List Control
controls script tree = default_control ∷ map (control_of script.names) (made_from script (opening script.machine script.tasks) tree)
