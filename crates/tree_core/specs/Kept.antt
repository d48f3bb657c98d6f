-- What the type of the tree keeps.
-- (For functions and proofs: no promise of the program stands on it.)
use Rattle.std.specs.Prelude.{ℕ, ◌≤◌, length}
use Rattle.machine.specs.declared.parameters.Parameters.{Parameters}
use Rattle.script_ops.specs.declared.limits.TheConstants.{MOST_TASKS}
use Rattle.tree_core.specs.Tables.{Stands, Tables}
use Rattle.tree_law.specs.Sound.{IsSound}
use Rattle.tree_law.specs.State.{State}

-- the tables stand for the state, the state is sound, and the tasks are as few as a script may declare
pub record Keeps (m : Parameters) (t : Tables) (s : State) (epoch : ℕ) : Type 0 where
  pub stands : Stands m t s epoch
  pub sound : IsSound m s
  pub few_tasks : length s.tasks ≤ MOST_TASKS

-- the same, as one fact
unfoldable pub IsKept : Parameters → Tables → State → ℕ → Type 0
IsKept m t s epoch = Keeps m t s epoch
