-- A write of `cpus` or `cpus_list`.
-- (Kernel documentation, `cpus`; the order of the reasons is this project's profile.)
use Rattle.std.specs.Prelude.{ℕ, ◌^◌, bit_or, Bool, not, ◌&&◌, if◌then◌else◌, List, [], ◌∷◌, map, Option, Some, None, Result, Ok, Err}
use Rattle.std.specs.List.{enumerate_from, list_any}
use Rattle.cpu_binding.specs.Groups.{after_control, after_monitor, has_control}
use Rattle.rc_base.specs.Gids.{default_gid, is_default}
use Rattle.cpu_binding.specs.Sets.{has_cpu}
use Rattle.cpu_binding.specs.declared.groups.CpuGroups.{CpuGroups}
use Rattle.cpu_lists.specs.Lists.{list_cpus}
use Rattle.cpu_lists.specs.Masks.{mask_cpus}
use Rattle.cpu_lists.specs.Sets.{answer_of}
use Rattle.cpu_lists.specs.declared.fault.CpuFault.{CpuFault}
use Rattle.cpu_lists.specs.declared.fault.CpuFault.TheVariants as faults
use Rattle.group_tree.specs.declared.group.Group.{Group}
use Rattle.group_tree.specs.declared.group_kind.GroupKind.{GroupKind}
use Rattle.group_tree.specs.declared.group_kind.GroupKind.TheVariants.{Control, Monitor}
use Rattle.machine.specs.declared.parameters.Parameters.{Parameters}
use Rattle.num_text.specs.Blanks.{trim}
use Rattle.rc_base.specs.declared.names.Gid.{Gid}
use Rattle.rc_base.specs.declared.replies.Why.TheVariants.{BadCpus, DropsDefault, Locking, NotACpu, NotParents}
use Rattle.tree_law.specs.Places.{controlling, is_closed}
use Rattle.tree_law.specs.Refusals.{Refusal, plain}
use Rattle.tree_law.specs.State.{State}

-- the CPUs that a text names as a mask
unfoldable pub mask_read : Parameters → List ℕ → Result (List ℕ) CpuFault
mask_read m text = answer_of m.cpus (mask_cpus (trim text))

-- the CPUs that a text names as a list
unfoldable pub list_read : Parameters → List ℕ → Result (List ℕ) CpuFault
list_read m text = answer_of m.cpus (list_cpus (trim text))

-- the set of these numbers
abbrev pub set_of : List ℕ → ℕ
set_of [] = 0
set_of (n ∷ ns) = bit_or (2 ^ n) (set_of ns)

-- whether a CPU is the default group's and not in a set
abbrev pub is_dropped : ℕ → ℕ × CpuGroups → Bool
is_dropped set (cpu, c) = has_control default_gid c && not (has_cpu set cpu)

-- whether a CPU is in a set and not this group's
abbrev pub is_strange : Gid → ℕ → ℕ × CpuGroups → Bool
is_strange parent set (cpu, c) = has_cpu set cpu && not (has_control parent c)

-- what is against a set: the default group would lose a CPU, or a monitor group would hold one that is not its parent's
abbrev pub against_set : Gid → GroupKind → List CpuGroups → ℕ → Option Refusal
against_set gid Control cpus set = if is_default gid && list_any (is_dropped set) (enumerate_from 0 cpus) then Some (plain DropsDefault) else None
against_set gid (Monitor parent) cpus set = if list_any (is_strange parent set) (enumerate_from 0 cpus) then Some (plain NotParents) else None

-- what is against a text: its fault, or what is against its set
abbrev pub against_read : Gid → GroupKind → List CpuGroups → Result (List ℕ) CpuFault → Option Refusal
against_read gid kind cpus (Err faults.Bad) = Some (plain BadCpus)
against_read gid kind cpus (Err (faults.NotACpu cpu)) = Some (record { why = NotACpu; arg = cpu })
against_read gid kind cpus (Ok numbers) = against_set gid kind cpus (set_of numbers)

-- refused if the control group is being locked or is locked, the text cannot be read, it names a CPU that does not exist, or the
-- set may not be written
unfoldable pub refusal : State → Group → Result (List ℕ) CpuFault → Option Refusal
refusal s g read = if is_closed s (controlling g.gid g.kind) then Some (plain Locking) else against_read g.gid g.kind s.cpus read

-- the groups of a CPU after a set was written to a group
abbrev pub cpu_after : Gid → GroupKind → ℕ → ℕ × CpuGroups → CpuGroups
cpu_after gid Control set (cpu, c) = after_control gid set cpu c
cpu_after gid (Monitor parent) set (cpu, c) = after_monitor gid set cpu c

-- the groups of all CPUs after a set was written to a group
abbrev pub cpus_after : Gid → GroupKind → ℕ → List CpuGroups → List CpuGroups
cpus_after gid kind set cpus = map (cpu_after gid kind set) (enumerate_from 0 cpus)

-- the state after an accepted write
unfoldable pub accepted : State → Group → Result (List ℕ) CpuFault → State
accepted s g (Ok numbers) = record s { cpus = cpus_after g.gid g.kind (set_of numbers) s.cpus }
accepted s g (Err fault) = s
