-- Which states of the tree are sound. Each command leaves a sound state sound.
-- (For functions and proofs: no promise of the program stands on it.)
use Rattle.std.specs.Prelude.{◌≡◌, ◌≢◌, ℕ, ◌<◌, ◌≤◌, ◌⊎◌, Bool, true, false, if◌then◌else◌, AllPairs, All, IsSome, IsNone, IfSome, IsSomeAnd, List, length, Option, Some, None, slice_get}
use Rattle.std.specs.List.{list_any}
use Rattle.cpu_binding.specs.declared.groups.CpuGroups.{CpuGroups}
use Rattle.group_tree.specs.Lists.{GidsDiffer}
use Rattle.group_tree.specs.Records.{has_gid, is_monitor_of}
use Rattle.group_tree.specs.declared.group.Group.{Group}
use Rattle.group_tree.specs.declared.group_kind.GroupKind.{GroupKind}
use Rattle.group_tree.specs.declared.group_kind.GroupKind.TheVariants.{Control, Monitor}
use Rattle.hw_ids.specs.Ids.{contains}
use Rattle.machine.specs.Maps.{cache_bytes}
use Rattle.machine.specs.declared.parameters.Parameters.{Parameters}
use Rattle.rc_base.specs.declared.names.Gid.{Gid}
use Rattle.rc_base.specs.declared.names.Mode.{Mode}
use Rattle.rc_base.specs.declared.names.Mode.TheVariants.{Shareable, Exclusive, LockSetup, Locked}
use Rattle.task_binding.specs.Bindings.{AreRising}
use Rattle.task_binding.specs.declared.binding.Binding.{Binding}
use Rattle.tree_law.specs.Counted.{is_counted}
use Rattle.tree_law.specs.Masks.{HaveMasks}
use Rattle.tree_law.specs.Regions.{HaveLines, HaveRegions}
use Rattle.tree_law.specs.State.{State}

-- ---- one record

-- which ids a control group of this mode has: a shareable or exclusive one a class and an RMID, one in pseudo-locksetup a class
-- alone, a pseudo-locked one neither
abbrev pub HasIdsOf : Mode → Group → Type 0
HasIdsOf Shareable g = IsSome g.class × IsSome g.rmid
HasIdsOf Exclusive g = IsSome g.class × IsSome g.rmid
HasIdsOf LockSetup g = IsSome g.class × IsNone g.rmid
HasIdsOf Locked g = IsNone g.class × IsNone g.rmid

-- whether a record is the counted group of this gid
abbrev pub counts : Gid → Group → Bool
counts gid g = if has_gid gid g then is_counted g else false

-- there is a counted group of this gid
abbrev pub IsCounted : List Group → Gid → Type 0
IsCounted groups gid = list_any (counts gid) groups ≡ true

-- a monitor group has an RMID alone, and its parent is a counted group
abbrev pub HasIds : List Group → GroupKind → Group → Type 0
HasIds groups Control g = HasIdsOf g.mode g
HasIds groups (Monitor parent) g = IsNone g.class × IsSome g.rmid × IsCounted groups parent

-- ---- two records

-- two ids, where both are there, differ
abbrev pub Differ : Option ℕ → Option ℕ → Type 0
Differ (Some a) (Some b) = a ≢ b
Differ a b = Unit {0}

-- groups of these kinds stand in the same directory
abbrev pub StandTogether : GroupKind → GroupKind → Type 0
StandTogether Control Control = Unit {0}
StandTogether (Monitor p) (Monitor q) = p.0 ≡ q.0
StandTogether a b = ⊥

-- two groups in the same directory have different names
abbrev pub NamesDiffer : Group → Group → Type 0
NamesDiffer a b = StandTogether a.kind b.kind → a.name ≢ b.name

-- two groups differ in class and in RMID, where both have one
abbrev pub IdsDiffer : Group → Group → Type 0
IdsDiffer a b = Differ a.class b.class × Differ a.rmid b.rmid

-- the default group: a counted one with gid, class and RMID 0 and without a name
pub record IsDefault (g : Group) : Type 0 where
  pub gid : g.gid.0 ≡ 0
  pub name : g.name ≡ None
  pub counted : is_counted g ≡ true
  pub class : g.class ≡ Some 0
  pub rmid : g.rmid ≡ Some 0

-- ---- the records and the limbo

-- an RMID is the machine's, and not in limbo
abbrev pub IsUsed : Parameters → List ℕ → ℕ → Type 0
IsUsed m limbo id = (id < m.rmids) × (contains id limbo ≡ false)

-- The default group stands first. Gids differ and are below the next one; names differ in each directory.
pub record AreNamed (groups : List Group) (next_gid : ℕ) : Type 0 where
  pub first : IsSomeAnd (slice_get groups 0) IsDefault
  pub gids : GidsDiffer groups
  pub serial : All (λ (g : Group). g.gid.0 < next_gid) groups
  pub names : AllPairs NamesDiffer groups

-- Each group has the ids of its mode. All ids are the machine's, no two groups have the same, and the limbo rises and has none of
-- theirs.
pub record AreNumbered (m : Parameters) (groups : List Group) (limbo : List ℕ) : Type 0 where
  pub ids : All (λ (g : Group). HasIds groups g.kind g) groups
  pub classes : All (λ (g : Group). IfSome g.class (λ id. id < m.classes)) groups
  pub rmids : All (λ (g : Group). IfSome g.rmid (IsUsed m limbo)) groups
  pub limbo_exists : All (λ id. id < m.rmids) limbo
  pub limbo_rising : AllPairs (λ a b. a < b) limbo
  pub apart : AllPairs IdsDiffer groups

-- ---- tasks and CPUs

-- a group is one of this control group's monitor groups
abbrev pub monitors : Gid → Gid → Group → Bool
monitors control gid g = if has_gid gid g then is_monitor_of control g.kind else false

-- a group is this control group, or one of its monitor groups
abbrev pub IsOf : List Group → Gid → Gid → Type 0
IsOf groups control gid = (gid.0 ≡ control.0) ⊎ (list_any (monitors control gid) groups ≡ true)

-- the control group of a task is a counted one, and the task is counted there or in one of its monitor groups
abbrev pub IsBound : List Group → Binding → Type 0
IsBound groups b = IsCounted groups b.control × IsOf groups b.control b.monitor

-- the control group of a CPU is a counted one, and its monitor group, where it has one, is of that group
abbrev pub IsServed : List Group → CpuGroups → Type 0
IsServed groups c = IsCounted groups c.control × IfSome c.monitor (IsOf groups c.control)

-- the tasks rise, and each has a counted control group, and is counted there or in one of its monitor groups
pub record AreBound (groups : List Group) (tasks : List Binding) : Type 0 where
  pub rising : AreRising tasks
  pub each : All (IsBound groups) tasks

-- each CPU of the machine has a counted control group, and its monitor group, where it has one, is of that group
pub record AreServed (m : Parameters) (groups : List Group) (cpus : List CpuGroups) : Type 0 where
  pub count : length cpus ≡ m.cpus
  pub each : All (IsServed groups) cpus

-- ---- a sound tree

-- the groups are sound by themselves, and the limbo, the regions, the tasks, the CPUs and the threshold beside them
pub record IsSound (m : Parameters) (s : State) : Type 0 where
  pub named : AreNamed s.groups s.next_gid
  pub numbered : AreNumbered m s.groups s.limbo
  pub masks : HaveMasks m s.groups
  pub regions : HaveRegions m s.groups s.regions
  pub lines : HaveLines s.regions s.locks
  pub tasks : AreBound s.groups s.tasks
  pub cpus : AreServed m s.groups s.cpus
  pub threshold : s.threshold ≤ cache_bytes m
