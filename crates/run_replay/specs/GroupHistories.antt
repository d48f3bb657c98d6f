-- Serial numbers of groups, and the control groups that take them, by the replies alone.
-- (For functions and proofs: no promise of the program stands on it.)
use Rattle.std.specs.Prelude.{◌≡◌, ℕ, ◌+◌, ◌≤◌, List, [], ◌∷◌, length, Option, Some}
use Rattle.path_names.specs.declared.dirs.DirRef.TheVariants.{Ctrl, Mon}
use Rattle.path_names.specs.declared.path_ref.PathRef.TheVariants.{Dir}
use Rattle.rc_base.specs.declared.replies.Reply.{Reply}
use Rattle.rc_base.specs.declared.replies.Reply.TheVariants as replies
use Rattle.run_law.specs.TreeHistory.{TreeEntryValue, tree_from}
use Rattle.run_replay.specs.Made.{made_from}
use Rattle.run_replay.specs.Replayed.{AreKnownGroups}
use Rattle.run_replay.specs.declared.group_history.GroupHistory.{GroupHistory}
use Rattle.run_replay.specs.declared.made_group.MadeGroup.{MadeGroup}
use Rattle.script_ops.specs.Values.{ScriptValue}
use Rattle.script_ops.specs.declared.op.Op.{Op}
use Rattle.script_ops.specs.declared.op.Op.TheVariants.{Mkdir}
use Rattle.tree_law.specs.State.{State}

-- how many serial numbers an op takes, by its reply
abbrev pub serials_taken : Reply → Option Op → ℕ
serials_taken replies.Ok (Some (Mkdir (Dir (Ctrl name)))) = 1
serials_taken replies.Ok (Some (Mkdir (Dir (Mon owner name)))) = 1
serials_taken reply op = 0

-- the control group that an op makes with this serial number, by its reply
abbrev pub made_as : ℕ → Option Op → Reply → List MadeGroup
made_as gid (Some (Mkdir (Dir (Ctrl name)))) replies.Ok = record { gid = gid; name = name } ∷ []
made_as gid op reply = []

-- the control groups that these commands made, from a state on, and the serial number of the next group
pub record IsHistory (script : ScriptValue) (s : State) (hs : List TreeEntryValue) (history : GroupHistory) : Type 0 where
  pub made : history.made.items ≡ made_from script s hs
  pub next : history.next_gid ≡ (tree_from script s hs).next_gid
  pub few : history.next_gid ≤ length hs + 1
  pub known : AreKnownGroups script.names history.made.items
