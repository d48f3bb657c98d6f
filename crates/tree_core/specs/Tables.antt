-- The tables of the tree, and the state that they stand for.
-- (For functions and proofs: no promise of the program stands on it.)
use Rattle.std.specs.Prelude.{◌≡◌, ℕ, ◌+◌, ◌≤◌, List, take}
use Rattle.std.specs.List.{list_any}
use Rattle.cpu_binding.specs.declared.groups.CpuGroups.{CpuGroups}
use Rattle.group_tree.specs.Lists.{GroupList}
use Rattle.group_tree.specs.declared.group.Group.{Group}
use Rattle.hw_ids.specs.Classes.{Classes}
use Rattle.hw_ids.specs.Ids.{contains}
use Rattle.hw_ids.specs.MonitoringIds.{MonitoringIds}
use Rattle.machine.specs.declared.parameters.Parameters.{Parameters}
use Rattle.pseudo_lock.specs.Regions.{RegionTable}
use Rattle.rc_base.specs.declared.replies.Reply.{Reply}
use Rattle.task_binding.specs.declared.binding.Binding.{Binding}
use Rattle.tree_law.specs.Space.{is_id}
use Rattle.tree_law.specs.State.{State}

-- the groups, the tasks and the CPUs with theirs, the classes and RMIDs with those that are taken, and the regions
pub record Tables : Type 0 where
  pub groups : GroupList
  pub tasks : List Binding
  pub cpus : List CpuGroups
  pub classes : Classes
  pub rmids : MonitoringIds
  pub regions : RegionTable

-- the tables, put together
abbrev pub tables : GroupList → List Binding → List CpuGroups → Classes → MonitoringIds → RegionTable → Tables
tables groups tasks cpus classes rmids regions = record { groups = groups; tasks = tasks; cpus = cpus; classes = classes; rmids = rmids; regions = regions }

-- the state, each part read from its table
abbrev pub state_of : Parameters → Tables → Reply → ℕ → State
state_of m t status next_gid = record {
  groups = t.groups.groups;
  tasks = t.tasks;
  cpus = t.cpus;
  limbo = t.rmids.limbo;
  regions = take m.domains t.regions.places;
  locks = t.regions.placed;
  threshold = t.rmids.threshold;
  status = status;
  next_gid = next_gid;
}

-- the ids are the machine's, and those are taken that the groups have
pub record AreTaken (m : Parameters) (groups : List Group) (classes : Classes) (rmids : MonitoringIds) : Type 0 where
  pub class_count : classes.count ≡ m.classes
  pub class_taken : (id : ℕ) → contains id classes.taken ≡ list_any (λ (g : Group). is_id id g.class) groups
  pub rmid_count : rmids.count ≡ m.rmids
  pub rmid_taken : (id : ℕ) → contains id rmids.taken ≡ list_any (λ (g : Group). is_id id g.rmid) groups

-- The tables stand for a state after so many commands: each part of the state is in its table, the table of groups has the
-- shareable bits of the machine, the ids that are taken are the groups', and each command so far made one group and locked one
-- region at most.
pub record Stands (m : Parameters) (t : Tables) (s : State) (epoch : ℕ) : Type 0 where
  pub groups : t.groups.groups ≡ s.groups
  pub tasks : t.tasks ≡ s.tasks
  pub cpus : t.cpus ≡ s.cpus
  pub limbo : t.rmids.limbo ≡ s.limbo
  pub threshold : t.rmids.threshold ≡ s.threshold
  pub regions : take m.domains t.regions.places ≡ s.regions
  pub locks : t.regions.placed ≡ s.locks
  pub shareable : t.groups.shareable ≡ m.shareable
  pub taken : AreTaken m s.groups t.classes t.rmids
  pub gids_left : s.next_gid ≤ epoch + 1
  pub locks_left : s.locks ≤ epoch
