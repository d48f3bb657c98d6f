-- What the looks of a thread's command have found.
-- (For functions and proofs: no promise of the program stands on it.)
use Rattle.std.specs.Prelude.{List, length, ℕ, ◌≡◌}
use Rattle.run_law.specs.FoundLooks.{HasFound, pairs_for}
use Rattle.script_ops.specs.Values.{ScriptValue}
use Rattle.script_ops.specs.declared.op.Op.{Op}
use Rattle.step_world.specs.Machine.{MachineValue, thread_at}
use Rattle.step_world.specs.declared.thread_state.ThreadState.TheVariants.{Looking}

-- A thread has taken the tree for this command, and its looks so far found these numbers.
pub record HasLooked (script : ScriptValue) (s : MachineValue) (t : ℕ) (op : Op) (found : List ℕ) : Type 0 where
  pub place : (thread_at s t).state ≡ Looking (length found)
  pub numbers : HasFound s.journals t (thread_at s t).next (pairs_for script s.journals.tree op) found
