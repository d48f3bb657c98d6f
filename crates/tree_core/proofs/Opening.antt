-- The opening tree is one that the type keeps.
use Rattle.std.proofs.Common.{◌≡◌, ℕ, ◌≤◌, List, [], ◌∷◌, length, map, take, replicate, Option, None, refl, sym, subst, ap, arith}
use Rattle.std.specs.List.Sorted.{IsStrictlyIncreasing}
use Rattle.cpu_binding.specs.Groups as cpu_groups
use Rattle.cpu_binding.specs.declared.groups.CpuGroups.{CpuGroups}
use Rattle.group_tree.specs.Lists.{GroupList}
use Rattle.group_tree.specs.Opening as groups_at_first
use Rattle.hw_ids.specs.Classes.{Classes}
use Rattle.hw_ids.specs.MonitoringIds.{MonitoringIds}
use Rattle.machine.specs.Maps.{parameters_of}
use Rattle.machine.specs.declared.machine.Machine.{Machine}
use Rattle.machine.specs.declared.parameters.Parameters.{Parameters}
use Rattle.pseudo_lock.specs.Regions.{RegionTable, unused}
use Rattle.rc_base.specs.declared.replies.Reply.TheVariants as replies
use Rattle.script_ops.specs.declared.limits.TheConstants.{MOST_TASKS}
use Rattle.task_binding.specs.Bindings as bindings
use Rattle.task_binding.specs.declared.binding.Binding.{Binding}
use Rattle.tree_core.proofs.KeptTables.{IsKept-from_Keeps}
use Rattle.tree_law.proofs.laws.Opening.{opening-sound}
use Rattle.tree_core.specs.Kept.{IsKept}
use Rattle.tree_core.specs.Tables.{state_of, tables}
use Rattle.tree_law.specs.Sound.{IsSound}
use Rattle.tree_law.specs.State.{opening}
use Rattle.pseudo_lock.specs.declared.region.Region.{Region}
use Rattle.std.proofs.lemmas.List.{length-map, take-replicate}

-- there is no region at first
take-unused : (m : Parameters) → m.domains ≤ 8 → take m.domains unused.places ≡ replicate m.domains None
take-unused m most = take-replicate m.domains 8 None most

-- what the new tables stand for is kept
pub IsKept-opening : (m : Machine) (ids : List ℕ) (groups : GroupList) (tasks : List Binding) (cpus : List CpuGroups) (classes : Classes) (rmids : MonitoringIds) (regions : RegionTable) → IsStrictlyIncreasing ids → groups ≡ groups_at_first.opening_groups (parameters_of m) → tasks ≡ map bindings.opening_binding ids
    → cpus ≡ replicate m.cpus cpu_groups.opening_cpu → classes ≡ record { count = m.classes; taken = 0 ∷ [] } → rmids ≡ record { count = m.rmids; taken = 0 ∷ []; limbo = []; threshold = m.threshold }
    → regions ≡ unused → length ids ≤ MOST_TASKS → IsKept (parameters_of m) (tables groups tasks cpus classes rmids regions) (state_of (parameters_of m) (tables groups tasks cpus classes rmids regions) replies.Ok 1) 0
IsKept-opening m ids groups tasks cpus classes rmids regions rising is_groups is_tasks is_cpus is_classes is_rmids is_regions few = rw (is_groups, is_tasks, is_cpus, is_classes, is_rmids, is_regions) (IsKept-from_Keeps (record {
  stands = record {
    groups = refl;
    tasks = refl;
    cpus = refl;
    limbo = refl;
    threshold = refl;
    regions = refl;
    locks = refl;
    shareable = refl;
    taken = record { class_count = refl; class_taken = λ id. refl; rmid_count = refl; rmid_taken = λ id. refl };
    gids_left = omega arith;
    locks_left = omega arith;
  };
  sound = subst (λ (places : List (Option Region)). IsSound (parameters_of m) (record (opening (parameters_of m) ids) { regions = places })) (sym (take-unused (parameters_of m) m.in_range.domain_limit)) (opening-sound (parameters_of m) ids m.in_range rising);
  few_tasks = omega (arith, few, length-map ids bindings.opening_binding);
}))

-- the new tables stand for the opening state
pub state_of-opening : (m : Machine) (ids : List ℕ) (groups : GroupList) (tasks : List Binding) (cpus : List CpuGroups) (classes : Classes) (rmids : MonitoringIds) (regions : RegionTable) → groups ≡ groups_at_first.opening_groups (parameters_of m) → tasks ≡ map bindings.opening_binding ids
    → cpus ≡ replicate m.cpus cpu_groups.opening_cpu → rmids ≡ record { count = m.rmids; taken = 0 ∷ []; limbo = []; threshold = m.threshold } → regions ≡ unused
    → state_of (parameters_of m) (tables groups tasks cpus classes rmids regions) replies.Ok 1 ≡ opening (parameters_of m) ids
state_of-opening m ids groups tasks cpus classes rmids regions is_groups is_tasks is_cpus is_rmids is_regions =
    rw (is_groups, is_tasks, is_cpus, is_rmids, is_regions) (ap (λ (places : List (Option Region)). record (opening (parameters_of m) ids) { regions = places }) (take-unused (parameters_of m) m.in_range.domain_limit))
