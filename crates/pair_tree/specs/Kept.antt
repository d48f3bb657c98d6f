-- What the type of the tree keeps.
-- (For functions and proofs: no promise of the program stands on it.)
use Rattle.std.specs.Prelude.{ℕ, ◌+◌, ◌≤◌, length}
use Rattle.pair_law.specs.Sound.{IsSound}
use Rattle.pair_law.specs.State.{PairState}
use Rattle.pair_text.specs.Values.{AreMachines, Machines}
use Rattle.script_ops.specs.declared.limits.TheConstants.{MOST_TASKS}

-- the machines are in range, the state is sound, each command so far made one group at most, and the tasks are as few as a script
-- may declare
pub record IsKept (m : Machines) (s : PairState) (epoch : ℕ) : Type 0 where
  pub machines : AreMachines m
  pub sound : IsSound m s
  pub gids_left : s.next_gid ≤ epoch + 1
  pub few_tasks : length s.tasks ≤ MOST_TASKS
