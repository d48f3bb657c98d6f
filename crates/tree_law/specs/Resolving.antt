-- Whose an access is.
-- (Kernel documentation, "Resource allocation rules" and "Resource monitoring rules".)
use Rattle.std.specs.Prelude.{ℕ, if◌then◌else◌, option_and_then, unwrap_or, slice_index_or}
use Rattle.std.specs.Option.{option_map_or}
use Rattle.cpu_binding.specs.Groups as cpu_groups
use Rattle.cpu_binding.specs.declared.groups.CpuGroups.{CpuGroups}
use Rattle.group_tree.specs.Records.{mask_in}
use Rattle.group_tree.specs.declared.group.Group.{Group}
use Rattle.machine.specs.Maps.{domain_of}
use Rattle.machine.specs.declared.parameters.Parameters.{Parameters}
use Rattle.rc_base.specs.Gids.{default_gid, is_default}
use Rattle.rc_base.specs.declared.names.Gid.{Gid}
use Rattle.task_binding.specs.Bindings.{binding_of}
use Rattle.task_binding.specs.declared.binding.Binding.{Binding}
use Rattle.tree_law.specs.Existing.{group_of}
use Rattle.tree_law.specs.State.{State}

-- the groups of a CPU
abbrev pub cpu_groups_of : State → ℕ → CpuGroups
cpu_groups_of s cpu = slice_index_or s.cpus cpu cpu_groups.opening_cpu

-- the control group of a task, and the default group where it is not declared
abbrev pub control_of : State → ℕ → Gid
control_of s task = option_map_or (λ (b : Binding). b.control) (binding_of task s.tasks) default_gid

-- the group that a task is counted in, and the default group where it is not declared
abbrev pub monitor_of : State → ℕ → Gid
monitor_of s task = option_map_or (λ (b : Binding). b.monitor) (binding_of task s.tasks) default_gid

-- the owner of an access: the task's control group where that is not the default group, and else the CPU's
abbrev pub owner_of : State → ℕ → ℕ → Gid
owner_of s task cpu = if is_default (control_of s task) then (cpu_groups_of s cpu).control else control_of s task

-- the group in which an access is counted: the task's where that is not the default group, else the CPU's monitor group where it
-- has one, else the CPU's control group
abbrev pub counted_at : State → ℕ → ℕ → Gid
counted_at s task cpu =
    if is_default (monitor_of s task) then unwrap_or (cpu_groups_of s cpu).monitor (cpu_groups_of s cpu).control else monitor_of s task

-- who owns an access, its class, the RMID under which it is counted, and the mask in which it fills
pub record Owned : Type 0 where
  pub owner : Gid
  pub class : ℕ
  pub rmid : ℕ
  pub mask : ℕ

-- the class of a group, and 0 where it has none
abbrev pub class_of : State → Gid → ℕ
class_of s gid = unwrap_or (option_and_then (λ (g : Group). g.class) (group_of s gid)) 0

-- the RMID of a group, and 0 where it has none
abbrev pub rmid_of : State → Gid → ℕ
rmid_of s gid = unwrap_or (option_and_then (λ (g : Group). g.rmid) (group_of s gid)) 0

-- the mask of a group in a domain, and 0 where there is no such group
abbrev pub mask_of_group : State → ℕ → Gid → ℕ
mask_of_group s domain gid = option_map_or (mask_in domain) (group_of s gid) 0

-- whose an access of a task on a CPU is, with the owner's mask in the domain of the CPU
unfoldable pub resolve : Parameters → State → ℕ → ℕ → Owned
resolve m s task cpu = record {
  owner = owner_of s task cpu;
  class = class_of s (owner_of s task cpu);
  rmid = rmid_of s (counted_at s task cpu);
  mask = mask_of_group s (domain_of m cpu) (owner_of s task cpu);
}
