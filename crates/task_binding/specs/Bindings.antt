-- Tasks and their groups.
use Rattle.std.specs.Prelude.{ℕ, ◌<◌, Bool, ◌==◌, List, Option, map, filter, find, AllPairs, if◌then◌else◌}
use Rattle.rc_base.specs.Gids.{default_gid}
use Rattle.rc_base.specs.declared.names.Gid.{Gid}
use Rattle.task_binding.specs.declared.binding.Binding.{Binding}

-- a task as it is declared: in the default group
abbrev pub opening_binding : ℕ → Binding
opening_binding task = record { task = task; control = default_gid; monitor = default_gid }

-- whether this is the binding of the task
abbrev pub is_of : ℕ → Binding → Bool
is_of task b = b.task == task

-- whether the group is the task's control group
abbrev pub has_control : Gid → Binding → Bool
has_control group b = b.control.0 == group.0

-- whether the task is counted in the group
abbrev pub has_monitor : Gid → Binding → Bool
has_monitor group b = b.monitor.0 == group.0

-- the binding of a task
abbrev pub binding_of : ℕ → List Binding → Option Binding
binding_of task tasks = find (is_of task) tasks

-- in a control group, and in no monitor group of it
abbrev pub joined : Gid → Binding → Binding
joined group b = record { task = b.task; control = group; monitor = group }

-- counted in a group, in the same control group
abbrev pub counted : Gid → Binding → Binding
counted group b = record { task = b.task; control = b.control; monitor = group }

-- those that pass the test are changed, and the others stay
abbrev pub changed : (Binding → Bool) → (Binding → Binding) → List Binding → List Binding
changed which how tasks = map (λ b. if which b then how b else b) tasks

-- the tasks of a control group, in the order of the list
abbrev pub control_members : Gid → List Binding → List ℕ
control_members group tasks = map (λ b. b.task) (filter (has_control group) tasks)

-- the tasks that are counted in a group, in the order of the list
abbrev pub monitor_members : Gid → List Binding → List ℕ
monitor_members group tasks = map (λ b. b.task) (filter (has_monitor group) tasks)

-- (For proofs.) the tasks rise
abbrev pub AreRising : List Binding → Type 0
AreRising tasks = AllPairs (λ a b. a.task < b.task) tasks
