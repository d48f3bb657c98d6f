-- The texts of the files of a group.
-- (Kernel documentation, "Resource alloc and monitor groups", "Schemata files - general concepts" and "Cache Pseudo-Locking".)
use Rattle.std.specs.Prelude.{ℕ, Bool, true, false, ◌==◌, if◌then◌else◌, List, [], ◌∷◌, ◌++◌, map, filter, codes, decimal}
use Rattle.std.specs.List.{enumerate_from, flat_map, join_with_byte, range_with_len}
use Rattle.std.specs.Option.{option_map_or}
use Rattle.cbm.specs.Masks.{ways_of}
use Rattle.cpu_binding.specs.Groups as cpu_groups
use Rattle.cpu_binding.specs.declared.groups.CpuGroups.{CpuGroups}
use Rattle.cpu_lists.specs.Printed as cpu_texts
use Rattle.file_view.specs.Lines.{on_line, on_lines}
use Rattle.group_tree.specs.Records.{is_control, mask_in}
use Rattle.group_tree.specs.declared.group.Group.{Group}
use Rattle.machine.specs.Maps.{bytes_of, domain_of}
use Rattle.machine.specs.declared.parameters.Parameters.{Parameters}
use Rattle.pseudo_lock.specs.declared.region.Region.{Region}
use Rattle.rc_base.specs.declared.names.Gid.{Gid}
use Rattle.schemata_text.specs.Printed.{printed}
use Rattle.schemata_text.specs.declared.assignment.Assignment.{Assignment}
use Rattle.task_binding.specs.Bindings.{control_members, has_control, has_monitor, monitor_members}
use Rattle.task_binding.specs.declared.binding.Binding.{Binding}
use Rattle.tree_law.specs.Space.{mask_of, region_in}
use Rattle.tree_law.specs.State.{State}
use Rattle.tree_law.specs.commands.Mode.{mode_name}
use Rattle.tree_law.specs.commands.Schemata.{is_locked}

-- ---- the domain of a pseudo-locked group

-- whether the region of a domain is this group's
abbrev pub has_region : State → Gid → ℕ → Bool
has_region s gid domain = option_map_or (λ (r : Region). r.gid.0 == gid.0) (region_in s.regions domain) false

-- whether the files of a group show a domain: those of a pseudo-locked group show its region's alone, and those of others each
abbrev pub is_shown : State → Group → ℕ → Bool
is_shown s g domain = if is_locked g.mode then has_region s g.gid domain else true

-- ---- cpus and cpus_list

-- whether a CPU is a group's: a control group has those of its monitor groups too
abbrev pub is_cpu_of : Group → CpuGroups → Bool
is_cpu_of g cpu = if is_control g.kind then cpu_groups.has_control g.gid cpu else cpu_groups.has_monitor g.gid cpu

-- the CPUs of a group, rising
abbrev pub cpus_of : State → Group → List ℕ
cpus_of s g = map (λ (e : ℕ × CpuGroups). e.0) (filter (λ (e : ℕ × CpuGroups). is_cpu_of g e.1) (enumerate_from 0 s.cpus))

-- the CPUs of the domain that has the region of a group, rising
abbrev pub cpus_of_region : Parameters → State → Group → List ℕ
cpus_of_region m s g = filter (λ cpu. has_region s g.gid (domain_of m cpu)) (range_with_len 0 m.cpus)

-- the CPUs that the files of a group show, as a set: bit c for CPU c
abbrev pub cpu_set : Parameters → State → Group → ℕ
cpu_set m s g = mask_of (if is_locked g.mode then cpus_of_region m s g else cpus_of s g)

-- the text of `cpus`: the CPUs that the files of a group show, as a mask
abbrev pub cpus_text : Parameters → State → Group → List ℕ
cpus_text m s g = on_line (cpu_texts.mask_text m.cpus (cpu_set m s g))

-- the text of `cpus_list`: the same CPUs as a list
abbrev pub cpus_list_text : Parameters → State → Group → List ℕ
cpus_list_text m s g = on_line (cpu_texts.list_text (cpu_set m s g))

-- ---- tasks

-- the tasks of a group, rising: all that a control group has, and those that are counted in a monitor group
abbrev pub tasks_in : State → Group → List ℕ
tasks_in s g = if is_control g.kind then control_members g.gid s.tasks else monitor_members g.gid s.tasks

-- (For proofs.) whether a task is one of them
abbrev pub is_task_of : Group → Binding → Bool
is_task_of g b = if is_control g.kind then has_control g.gid b else has_monitor g.gid b

-- (For proofs.) the line of a task, and nothing where it is not the group's
abbrev pub task_line : Group → Binding → List ℕ
task_line g b = if is_task_of g b then on_line (decimal b.task) else []

-- the text of `tasks`: the tasks of a group, each on its line
abbrev pub tasks_text : State → Group → List ℕ
tasks_text s g = on_lines (map decimal (tasks_in s g))

-- ---- schemata, mode and size

-- the group's mask in a domain, and nothing where its files do not show the domain
abbrev pub shown_mask : State → Group → ℕ → List Assignment
shown_mask s g domain = if is_shown s g domain then record { domain = domain; mask = mask_in domain g } ∷ [] else []

-- a group's masks in the domains that its files show, rising
abbrev pub schemata_of : Parameters → State → Group → List Assignment
schemata_of m s g = flat_map (shown_mask s g) (range_with_len 0 m.domains)

-- the text of `schemata`: `L3:` and `id=mask` of each of these, separated by `;`
unfoldable pub schemata_text : Parameters → State → Group → List ℕ
schemata_text m s g = on_line (printed m.ways (schemata_of m s g))

-- the text of `mode`: the name of the mode
abbrev pub mode_text : Group → List ℕ
mode_text g = on_line (mode_name g.mode)

-- `id=bytes`: the part of a domain's cache that a mask allows
abbrev pub size_entry : Parameters → Assignment → List ℕ
size_entry m a = decimal a.domain ++ 61 ∷ decimal (bytes_of m (ways_of a.mask))

-- the line of `size`: the same as in `schemata`, with the bytes of each mask in its place
unfoldable pub size_line : Parameters → List Assignment → List ℕ
size_line m all = codes "L3:" ++ join_with_byte 59 (map (size_entry m) all)

-- the text of `size`: for each domain that the files of a group show, the bytes that its mask allows
unfoldable pub size_text : Parameters → State → Group → List ℕ
size_text m s g = on_line (size_line m (schemata_of m s g))
