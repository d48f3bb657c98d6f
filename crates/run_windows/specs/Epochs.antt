-- The states of the tree in a run.
use Rattle.std.specs.Prelude.{ℕ, ◌≤◌, length, take}
use Rattle.run_law.specs.Journals.{JournalsValue}
use Rattle.run_law.specs.TreeHistory.{tree_after}
use Rattle.script_ops.specs.Values.{ScriptValue}
use Rattle.tree_law.specs.Sound.{IsSound}
use Rattle.tree_law.specs.State.{State}

-- the state of an epoch: the tree after so many commands
abbrev pub state_at : ScriptValue → JournalsValue → ℕ → State
state_at script j epoch = tree_after script (take epoch j.tree)

-- (For proofs.) the state of every epoch is sound
abbrev pub AreSound : ScriptValue → JournalsValue → Type 0
AreSound script j = (epoch : ℕ) → epoch ≤ length j.tree → IsSound script.machine (state_at script j epoch)
