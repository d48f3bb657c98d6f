-- Whose an access is: the binding of a declared task, and the groups to which it leads.
use Rattle.std.proofs.Common.{◌≡◌, ℕ, zero, suc, ◌<◌, Bool, true, ◌||◌, cond, List, [], ◌∷◌, length, map, get_or, is_some, Option, Some, IsSome, unwrap_or, refl, sym, ap, ◌∙◌, arith}
use Rattle.std.specs.List.{list_any}
use Rattle.std.specs.Prelude.{Contains}
use Rattle.std.specs.Option.{option_map_or}
use Rattle.std.proofs.lemmas.Bool.{eq-eqb}
use Rattle.std.proofs.Math.Bool.{or-true}
use Rattle.lists.proofs.Tests.{find-some}
use Rattle.rc_base.specs.Gids.{default_gid, is_default}
use Rattle.task_binding.specs.Bindings.{binding_of, is_of}
use Rattle.task_binding.specs.declared.binding.Binding.{Binding}
use Rattle.tree_law.specs.Resolving.{counted_at, cpu_groups_of, owner_of}
use Rattle.tree_law.specs.State.{State, tasks_of}

-- ---- a declared task

-- some binding is that of a number in the list of the tasks
list_any-is_of : (task : ℕ) (tasks : List Binding) (k : ℕ) → k < length (map (λ (b : Binding). b.task) tasks) → get_or (map (λ (b : Binding). b.task) tasks) k task ≡ task → list_any (is_of task) tasks ≡ true
list_any-is_of task [] k within is = absurd (omega arith)
list_any-is_of task (b ∷ bs) zero within is = rw (eq-eqb b.task task is) refl
list_any-is_of task (b ∷ bs) (suc k) within is = ap (λ (c : Bool). is_of task b || c) (list_any-is_of task bs k (omega arith) is) ∙ or-true (is_of task b)

-- a task that is one of the declared has a binding
pub IsSome-binding_of : (s : State) (task : ℕ) → Contains (tasks_of s) task → IsSome (binding_of task s.tasks)
IsSome-binding_of s task declared = ap is_some (find-some (is_of task) s.tasks (list_any-is_of task s.tasks declared.0 declared.1 declared.2)).1

-- ---- the groups of an access

module _ (s : State) (task cpu : ℕ) (b : Binding) (bound : binding_of task s.tasks ≡ Some b) where
  -- its owner, by the task's control group
  pub owner_of-bound : cond (is_default b.control) (cpu_groups_of s cpu).control b.control ≡ owner_of s task cpu
  owner_of-bound = ap (λ (o : Option Binding). let control = option_map_or (λ (x : Binding). x.control) o default_gid in cond (is_default control) (cpu_groups_of s cpu).control control) (sym bound)

  -- the group in which it is counted, by the task's
  pub counted_at-bound : cond (is_default b.monitor) (unwrap_or (cpu_groups_of s cpu).monitor (cpu_groups_of s cpu).control) b.monitor ≡ counted_at s task cpu
  counted_at-bound = ap (λ (o : Option Binding). let monitor = option_map_or (λ (x : Binding). x.monitor) o default_gid in cond (is_default monitor) (unwrap_or (cpu_groups_of s cpu).monitor (cpu_groups_of s cpu).control) monitor) (sym bound)
