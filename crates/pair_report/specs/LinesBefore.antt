-- What is told of the commands before an op.
-- (For functions and proofs: no promise of the program stands on it.)
use Rattle.std.specs.Prelude.{◌≡◌, ◌≤◌, All, length, map, ℕ, Bool, true, false, if◌then◌else◌, List, [], ◌∷◌, ◌++◌, codes, filter, take, Option, Some}
use Rattle.pair_law.specs.State.{opening}
use Rattle.pair_text.specs.Values.{PairScriptValue, epoch_at, is_command, op_at}
use Rattle.pair_text.specs.declared.op.PairOp.{PairOp}
use Rattle.pair_text.specs.declared.op.PairOp.TheVariants as ops
use Rattle.pair_report.specs.MadeGroups.{GroupPath, made_from}
use Rattle.pair_report.specs.PairCommands.{command_lines}
use Rattle.pair_report.specs.declared.made.MadeGroup.{MadeGroup}
use Rattle.pair_windows.specs.Replays.{HasTaken, ReplayValue}
use Rattle.rc_base.specs.declared.replies.Reply.{Reply}
use Rattle.rc_base.specs.declared.replies.Reply.TheVariants as replies

-- the commands before an op
abbrev pub commands_before : PairScriptValue → ℕ → List PairOp
commands_before script i = filter is_command (take i script.ops)

-- their lines
abbrev pub lines_before : PairScriptValue → List Reply → ℕ → List ℕ
lines_before script replies i = command_lines script.machines (opening script.machines script.tasks) 0 (commands_before script i) replies

-- the groups that they made
abbrev pub made_before : PairScriptValue → List Reply → ℕ → List GroupPath
made_before script replies i = made_from 1 (commands_before script i) replies

-- the path that a mkdir makes
abbrev pub path_made : Option PairOp → List ℕ
path_made (Some (ops.Mkdir name)) = codes "/" ++ name
path_made op = []

-- a group that was made, by the place of the op that made it
abbrev pub group_made : PairScriptValue → MadeGroup → GroupPath
group_made script made = record { gid = made.gid; path = path_made (op_at script made.place) }

-- whether a command with this reply makes a group
abbrev pub makes : PairOp → Reply → Bool
makes (ops.Mkdir name) replies.Ok = true
makes op reply = false

-- the group that it makes, by its serial number and the place of the op
abbrev pub made_by : PairOp → Reply → ℕ → ℕ → List MadeGroup
made_by op reply gid place = if makes op reply then record { gid = gid; place = place } ∷ [] else []

-- The groups that the commands before an op made, where so many commands stand before it.
pub record HasMade (script : PairScriptValue) (answers : List Reply) (i k : ℕ) (made : List MadeGroup) : Type 0 where
  pub commands : k ≡ epoch_at script i
  pub groups : map (group_made script) made ≡ made_before script answers i
  pub few : length made ≤ k
  pub small : All (λ (m : MadeGroup). m.gid ≤ k) made

-- The tree was taken no further than the commands before an op.
pub record IsBehind (script : PairScriptValue) (place : ℕ) (r : ReplayValue) : Type 0 where
  pub taken : HasTaken script r
  pub later : r.place ≤ place
