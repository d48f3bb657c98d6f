-- What the type of the tree keeps, at first and after a command.
use Rattle.std.proofs.Common.{◌≡◌, ℕ, zero, suc, ◌+◌, ◌<◌, Bool, true, ◌||◌, Contains, IsSome, List, [], ◌∷◌, get_or, is_some, length, map, refl, ap, ◌∙◌, arith}
use Rattle.std.specs.List.{list_any}
use Rattle.std.proofs.lemmas.Bool.{eq-eqb}
use Rattle.std.proofs.lemmas.List.{length-map}
use Rattle.std.proofs.Math.Bool.{or-true}
use Rattle.lists.proofs.Tests.{find-some}
use Rattle.pair_law.proofs.laws.Bounds.{next_gid-next, tasks_of-next}
use Rattle.pair_law.proofs.laws.Opening.{opening-sound}
use Rattle.pair_law.proofs.laws.Steps.{next-sound}
use Rattle.pair_law.specs.Bounds.{tasks_of}
use Rattle.pair_law.specs.State.{PairState, opening}
use Rattle.pair_law.specs.Steps.{next}
use Rattle.pair_text.specs.Values.{IsLawful, Machines, PairScriptValue}
use Rattle.pair_text.specs.declared.op.PairOp.{PairOp}
use Rattle.pair_tree.specs.Changes.{Takes}
use Rattle.pair_tree.specs.Kept.{IsKept}
use Rattle.rc_base.specs.declared.replies.Reply.{Reply}
use Rattle.task_binding.specs.Bindings.{binding_of, is_of, opening_binding}
use Rattle.task_binding.specs.declared.binding.Binding.{Binding}

-- a lawful script's opening state
pub IsKept-opening : (script : PairScriptValue) (m : Machines) (s : PairState) → IsLawful script → m ≡ script.machines → s ≡ opening m script.tasks → IsKept m s 0
IsKept-opening script m s lawful is_m is_s = rw is_s (rw is_m (record {
  machines = lawful.machines;
  sound = opening-sound script.machines script.tasks lawful.machines lawful.rising;
  gids_left = omega arith;
  few_tasks = omega (arith, lawful.few_tasks, length-map script.tasks opening_binding);
}))

-- the state after a command
pub IsKept-next : (m : Machines) (s new : PairState) (op : PairOp) (said : Reply) (epoch : ℕ) → IsKept m s epoch → Takes m s op new said → IsKept m new (epoch + 1)
IsKept-next m s new op said epoch kept takes = rw takes.state (record {
  machines = kept.machines;
  sound = next-sound m s op kept.machines kept.sound;
  gids_left = omega (arith, kept.gids_left, next_gid-next m s op);
  few_tasks = omega (arith, kept.few_tasks, ap length (tasks_of-next m s op), length-map s.tasks (λ (b : Binding). b.task), length-map (next m s op).state.tasks (λ (b : Binding). b.task));
})

-- ---- declared tasks

-- some binding is that of a number in the list of the tasks
list_any-is_of : (task : ℕ) (tasks : List Binding) (k : ℕ) → k < length (map (λ (b : Binding). b.task) tasks) → get_or (map (λ (b : Binding). b.task) tasks) k task ≡ task → list_any (is_of task) tasks ≡ true
list_any-is_of task [] k within is = absurd (omega arith)
list_any-is_of task (b ∷ bs) zero within is = rw (eq-eqb b.task task is) refl
list_any-is_of task (b ∷ bs) (suc k) within is = ap (λ (c : Bool). is_of task b || c) (list_any-is_of task bs k (omega arith) is) ∙ or-true (is_of task b)

-- a task that is one of the declared has a binding
pub IsSome-binding_of : (s : PairState) (task : ℕ) → Contains (tasks_of s) task → IsSome (binding_of task s.tasks)
IsSome-binding_of s task declared = ap is_some (find-some (is_of task) s.tasks (list_any-is_of task s.tasks declared.0 declared.1 declared.2)).1
