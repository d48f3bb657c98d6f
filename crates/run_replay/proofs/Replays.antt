-- What the tree keeps of the script, while the commands are taken once more.
use Rattle.std.proofs.Common.{◌≡◌, ℕ, List, length, sym, ap, ◌∙◌, subst}
use Rattle.run_law.proofs.laws.Tasks.{tasks_of-opening}
use Rattle.tree_core.proofs.laws.KnownNames.{named_next, named_opening}
use Rattle.tree_core.specs.Named.{AreNamed}
use Rattle.run_replay.specs.Replayed.{IsReplay}
use Rattle.script_ops.specs.Canonical.{IsNamed, IsShort}
use Rattle.script_ops.specs.Fits.{Fits}
use Rattle.script_ops.specs.Values.{ScriptValue}
use Rattle.script_ops.specs.declared.op.Op.{Op}
use Rattle.tree_core.specs.Values.{TreeValue}
use Rattle.tree_law.proofs.laws.DeclaredTasks.{tasks_of-next}
use Rattle.tree_law.specs.State.{State, opening, tasks_of}
use Rattle.tree_law.specs.Steps.{next}

-- the opening tree of a script is one of the script
pub IsReplay-opening : (script : ScriptValue) (t : TreeValue) → t.machine ≡ script.machine → t.state ≡ opening script.machine script.tasks → IsReplay script t
IsReplay-opening script t machine state = record {
  machine = machine;
  tasks = ap tasks_of state ∙ tasks_of-opening script.machine script.tasks;
  named = subst (λ (s : State). AreNamed script.names s.groups) (sym state) (named_opening script.names script.machine script.tasks);
}

-- a tree that was taken one command on is still one of the script
pub IsReplay-next : (script : ScriptValue) (old new : TreeValue) (op : Op) (looks : List ℕ) → IsReplay script old → IsNamed (length script.names) op → IsShort script.names op
    → new.machine ≡ old.machine → new.state ≡ (next old.machine old.state op looks).state → IsReplay script new
IsReplay-next script old new op looks before known short machine state = record {
  machine = machine ∙ before.machine;
  tasks = ap tasks_of state ∙ (tasks_of-next old.machine old.state op looks ∙ before.tasks);
  named = subst (λ (s : State). AreNamed script.names s.groups) (sym state) (named_next script.names old.machine old.state op looks known short before.named);
}

-- ---- the op of an entry

-- it fits the tree
pub Fits-replay : (script : ScriptValue) (t : TreeValue) (op : Op) → IsReplay script t → Fits script.machine script.tasks op → Fits t.machine (tasks_of t.state) op
Fits-replay script t op replay fits = subst (λ m. Fits m (tasks_of t.state) op) (sym replay.machine) (subst (λ ts. Fits script.machine ts op) (sym replay.tasks) fits)
