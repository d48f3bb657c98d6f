-- Which commands a history of the tree may go on with, whatever it answered: so a history with another is refused by its commands
-- alone, and nothing else has to be known of it.
-- (For functions and proofs: no promise of the program stands on it.)
use Rattle.std.specs.Prelude.{◌≡◌, ℕ, ◌≤◌, IsTrue, List, Some, filter, length, take}
use Rattle.run_law.specs.Clauses.{CommandsStandOnce, TreeIsLegal}
use Rattle.run_law.specs.Journals.{At, JournalsValue}
use Rattle.run_law.specs.Ops.{is_command}
use Rattle.run_law.specs.Quotas.{most_counts}
use Rattle.run_law.specs.Truth.{is_taken_from}
use Rattle.run_law.specs.TreeHistory.{TreeEntryValue}
use Rattle.script_ops.specs.Values.{IsLawful, ScriptValue, op_at}
use Rattle.script_ops.specs.declared.op.Op.{Op}

-- an entry is of a command of the script, with no more counts than it can need
pub record CanTake (script : ScriptValue) (h : TreeEntryValue) : Type 0 where
  pub command : Op
  pub is : op_at script h.thread h.op ≡ Some command
  pub takes : IsTrue (is_command command)
  pub few : length h.looks ≤ most_counts script.machine command

-- an entry after these is of a command that does not stand among them
pub record IsExpected (script : ScriptValue) (before : List TreeEntryValue) (h : TreeEntryValue) : Type 0 where
  pub can : CanTake script h
  pub first : length (filter (is_taken_from h.thread h.op) before) ≡ 0

-- Where an entry of the tree's history is not expected, one of the first two clauses is false, whatever the history answered and
-- whatever the slices hold: how often each command stands there says which of the two is the first.
abbrev pub UnexpectedCommandsFail : Type 0
UnexpectedCommandsFail =
    (script : ScriptValue) (j : JournalsValue) (k : ℕ) (h : TreeEntryValue)
    → IsLawful script → At j.tree k h → (IsExpected script (take k j.tree) h → ⊥)
    → CommandsStandOnce script j → TreeIsLegal script j → ⊥
