-- The tasks of the tree are those of the script.
use Rattle.std.proofs.Common.{◌≡◌, ℕ, List, [], ◌∷◌, Option, Some, None, refl, ap, ◌∙◌}
use Rattle.machine.specs.declared.parameters.Parameters.{Parameters}
use Rattle.run_law.specs.TreeHistory.{TreeEntryValue, state_after, tree_after, tree_from}
use Rattle.script_ops.specs.Values.{ScriptValue, op_at}
use Rattle.script_ops.specs.declared.op.Op.{Op}
use Rattle.tree_law.proofs.laws.DeclaredTasks.{tasks_of-next}
use Rattle.tree_law.specs.State.{State, opening, tasks_of}

-- after an op
tasks_of-state_after : (m : Parameters) (s : State) (looks : List ℕ) (op : Option Op) → tasks_of (state_after m s looks op) ≡ tasks_of s
tasks_of-state_after m s looks None = refl
tasks_of-state_after m s looks (Some op) = tasks_of-next m s op looks

-- after a history, from a state on
tasks_of-tree_from : (script : ScriptValue) (s : State) (es : List TreeEntryValue) → tasks_of (tree_from script s es) ≡ tasks_of s
tasks_of-tree_from script s [] = refl
tasks_of-tree_from script s (e ∷ es) =
    tasks_of-tree_from script (state_after script.machine s e.looks (op_at script e.thread e.op)) es ∙ tasks_of-state_after script.machine s e.looks (op_at script e.thread e.op)

-- at first
pub tasks_of-opening : (m : Parameters) (tasks : List ℕ) → tasks_of (opening m tasks) ≡ tasks
tasks_of-opening m [] = refl
tasks_of-opening m (task ∷ tasks) = ap (λ (ts : List ℕ). task ∷ ts) (tasks_of-opening m tasks)

-- and after a history
pub tasks_of-tree_after : (script : ScriptValue) (es : List TreeEntryValue) → tasks_of (tree_after script es) ≡ script.tasks
unfolding tree_after
tasks_of-tree_after script es = tasks_of-tree_from script (opening script.machine script.tasks) es ∙ tasks_of-opening script.machine script.tasks
