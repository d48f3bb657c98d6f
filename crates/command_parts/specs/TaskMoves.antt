-- What is against moving a task.
-- (For functions and proofs: no promise of the program stands on it.)
use Rattle.std.specs.Prelude.{ℕ, Option, Some, None, Result, Ok, Err}
use Rattle.rc_base.specs.declared.replies.Why.TheVariants as whys
use Rattle.task_binding.specs.declared.binding.BindFault.{BindFault}
use Rattle.task_binding.specs.declared.binding.BindFault.TheVariants.{NoTask, OtherControl}
use Rattle.tree_law.specs.Refusals.{Refusal}

-- why a task was not bound
abbrev pub refusal_of : ℕ → Result Unit BindFault → Option Refusal
refusal_of task (Ok bound) = None
refusal_of task (Err NoTask) = Some (record { why = whys.NoTask; arg = task })
refusal_of task (Err OtherControl) = Some (record { why = whys.OtherControl; arg = task })
