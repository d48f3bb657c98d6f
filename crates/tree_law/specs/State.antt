-- The state of the tree of groups.
-- (Kernel documentation, "Resource alloc and monitor groups", "Info directory" and "Cache Pseudo-Locking".)
use Rattle.std.specs.Prelude.{ℕ, List, [], ◌∷◌, map, replicate, Option, None}
use Rattle.cpu_binding.specs.Groups as cpu_groups
use Rattle.cpu_binding.specs.declared.groups.CpuGroups.{CpuGroups}
use Rattle.group_tree.specs.Opening.{default_group}
use Rattle.group_tree.specs.declared.group.Group.{Group}
use Rattle.machine.specs.declared.parameters.Parameters.{Parameters}
use Rattle.pseudo_lock.specs.declared.region.Region.{Region}
use Rattle.rc_base.specs.declared.replies.Reply.{Reply}
use Rattle.rc_base.specs.declared.replies.Reply.TheVariants as replies
use Rattle.task_binding.specs.Bindings as bindings
use Rattle.task_binding.specs.declared.binding.Binding.{Binding}

-- The groups in order of creation; each task with its control group and the group that it is counted in; the groups of CPU 0,
-- CPU 1 and so on; the RMIDs in limbo, rising; the region of each domain; how many locks were accepted; the limbo's threshold
-- in bytes; the last status; and the serial number of the next group.
pub record State : Type 0 where
  pub groups : List Group
  pub tasks : List Binding
  pub cpus : List CpuGroups
  pub limbo : List ℕ
  pub regions : List (Option Region)
  pub locks : ℕ
  pub threshold : ℕ
  pub status : Reply
  pub next_gid : ℕ

-- (For proofs.) the numbers of the tasks
abbrev pub tasks_of : State → List ℕ
tasks_of s = map (λ (b : Binding). b.task) s.tasks

-- at first the default group is the only one, and owns all tasks and CPUs
abbrev pub opening : Parameters → List ℕ → State
opening m tasks = record {
  groups = default_group m ∷ [];
  tasks = map bindings.opening_binding tasks;
  cpus = replicate m.cpus cpu_groups.opening_cpu;
  limbo = [];
  regions = replicate m.domains None;
  locks = 0;
  threshold = m.threshold;
  status = replies.Ok;
  next_gid = 1;
}

-- a reply, and the state after it
pub record Outcome : Type 0 where
  pub reply : Reply
  pub state : State
