-- rmdir: a control group with its monitor groups, or a monitor group.
-- (Kernel documentation, "Resource alloc and monitor groups"; the order of the reasons is this project's profile.)
use Rattle.std.specs.Prelude.{ℕ, Bool, true, false, not, ◌==◌, if◌then◌else◌, List, [], ◌∷◌, map, filter, Option, Some, None}
use Rattle.std.specs.Option.{option_map_or}
use Rattle.cpu_binding.specs.Groups as cpu_groups
use Rattle.cpu_binding.specs.declared.groups.CpuGroups.{CpuGroups}
use Rattle.group_tree.specs.Lists.{without}
use Rattle.group_tree.specs.Records.{has_gid, is_monitor_of}
use Rattle.group_tree.specs.declared.group.Group.{Group}
use Rattle.machine.specs.declared.parameters.Parameters.{Parameters}
use Rattle.path_names.specs.declared.dirs.DirRef.TheVariants.{Ctrl, Mon}
use Rattle.path_names.specs.declared.path_ref.PathRef.{PathRef}
use Rattle.path_names.specs.declared.path_ref.PathRef.TheVariants.{Dir}
use Rattle.rc_base.specs.Gids.{default_gid}
use Rattle.rc_base.specs.declared.names.Gid.{Gid}
use Rattle.rc_base.specs.declared.replies.Why.{Why}
use Rattle.rc_base.specs.declared.replies.Why.TheVariants.{NoSuchPath, NotAPlace}
use Rattle.task_binding.specs.Bindings as bindings
use Rattle.task_binding.specs.declared.binding.Binding.{Binding}
use Rattle.tree_law.specs.Existing.{directory_gid, group_of, is_group_directory, path_exists}
use Rattle.tree_law.specs.Freeing.{limbo_after, rmids_of, rmids_with}
use Rattle.tree_law.specs.Refusals.{Refusal, first_of}
use Rattle.tree_law.specs.State.{State}
use Rattle.pseudo_lock.specs.declared.region.Region.{Region}

-- the reasons, in the order in which they are tried
abbrev pub reasons : List Why
reasons = NoSuchPath ∷ NotAPlace ∷ []

-- whether this is against removing what is at a path
abbrev pub against : State → PathRef → Why → Bool
against s path NoSuchPath = not (path_exists s path)
against s path NotAPlace = not (is_group_directory path)
against s path why = false

-- why an rmdir is refused, where it is
unfoldable pub refusal : State → PathRef → Option Refusal
refusal s path = first_of (against s path) reasons

-- the RMIDs that are freed, in order: of a control group its own where it has one and then its monitor groups', of a monitor
-- group its own
unfoldable pub freed : State → PathRef → List ℕ
freed s (Dir (Ctrl name)) = option_map_or (rmids_with s) (directory_gid s (Ctrl name)) []
freed s (Dir (Mon owner name)) = option_map_or (λ gid. option_map_or rmids_of (group_of s gid) []) (directory_gid s (Mon owner name)) []
freed s path = []

-- ---- a control group

-- whether a record goes with a control group: it is that group or one of its monitor groups
abbrev pub goes_with : Gid → Group → Bool
goes_with gid g = if has_gid gid g then true else is_monitor_of gid g.kind

-- the groups that stay
abbrev pub staying : Gid → List Group → List Group
staying gid groups = filter (λ g. not (goes_with gid g)) groups

-- a CPU of the group goes to the default group
abbrev pub cpu_after : Gid → CpuGroups → CpuGroups
cpu_after gid c = if cpu_groups.has_control gid c then cpu_groups.opening_cpu else c

-- the region of the group is no more
abbrev pub region_after : Gid → Option Region → Option Region
region_after gid None = None
region_after gid (Some r) = if r.gid.0 == gid.0 then None else Some r

-- the state without a control group and its monitor groups, after these RMIDs were freed; its tasks and CPUs are the default
-- group's
abbrev pub without_control : Parameters → State → Gid → List ℕ → List ℕ → State
without_control m s gid freed looks = record s {
  groups = staying gid s.groups;
  tasks = bindings.changed (bindings.has_control gid) (bindings.joined default_gid) s.tasks;
  cpus = map (cpu_after gid) s.cpus;
  limbo = limbo_after m s.threshold s.limbo freed looks;
  regions = map (region_after gid) s.regions;
}

-- ---- a monitor group

-- a task that was counted in the group is counted in its control group
abbrev pub uncounted : Binding → Binding
uncounted b = bindings.counted b.control b

-- a CPU that was counted in the group is counted in its control group
abbrev pub cpu_uncounted : Gid → CpuGroups → CpuGroups
cpu_uncounted gid c = if cpu_groups.has_monitor gid c then cpu_groups.joined c.control else c

-- the state without a monitor group, after these RMIDs were freed
abbrev pub without_monitor : Parameters → State → Gid → List ℕ → List ℕ → State
without_monitor m s gid freed looks = record s {
  groups = without gid s.groups;
  tasks = bindings.changed (bindings.has_monitor gid) uncounted s.tasks;
  cpus = map (cpu_uncounted gid) s.cpus;
  limbo = limbo_after m s.threshold s.limbo freed looks;
}

-- ---- the next state

-- the state after an accepted rmdir, with the counts of the RMIDs that it frees
unfoldable pub accepted : Parameters → State → PathRef → List ℕ → State
accepted m s (Dir (Ctrl name)) looks = option_map_or (λ gid. without_control m s gid (freed s (Dir (Ctrl name))) looks) (directory_gid s (Ctrl name)) s
accepted m s (Dir (Mon owner name)) looks = option_map_or (λ gid. without_monitor m s gid (freed s (Dir (Mon owner name))) looks) (directory_gid s (Mon owner name)) s
accepted m s path looks = s
