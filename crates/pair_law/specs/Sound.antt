-- Which states are sound. Each command keeps it.
-- (For functions and proofs: no promise of the program stands on it.)
use Rattle.std.specs.Prelude.{◌≡◌, ◌≢◌, ℕ, ◌<◌, ◌⊎◌, Bool, true, AllPairs, All, IsSomeAnd, List, length, Option, Some, None, slice_get}
use Rattle.std.specs.List.{list_any}
use Rattle.machine.specs.declared.parameters.Parameters.{Parameters}
use Rattle.pair_law.specs.Reading.{is_same_side}
use Rattle.pair_law.specs.State.{PairGroup, PairState, has_gid, mask_in, masks_on}
use Rattle.pair_text.specs.Values.{Machines, class_count, side_machine}
use Rattle.pair_text.specs.declared.side.Side.{Side}
use Rattle.rc_base.specs.declared.names.Gid.{Gid}
use Rattle.rc_base.specs.declared.names.Mode.TheVariants.{Exclusive}
use Rattle.task_binding.specs.Bindings.{AreRising}
use Rattle.task_binding.specs.declared.binding.Binding.{Binding}
use Rattle.tree_law.specs.Counted.{is_counted_mode}
use Rattle.tree_law.specs.Masks.{AreApart, IsValid}

-- ---- names and classes

-- the default group: the first, without a name, with class 0
pub record IsDefault (g : PairGroup) : Type 0 where
  pub gid : g.gid.0 ≡ 0
  pub name : g.name ≡ None
  pub class : g.class ≡ 0

-- no two groups have the same serial number
abbrev pub GidsDiffer : List PairGroup → Type 0
GidsDiffer groups = AllPairs (λ a b. a.gid.0 ≢ b.gid.0) groups

-- The default group stands first. Serial numbers differ and are below the next one; names differ. Each group is shareable or exclusive.
pub record AreNamed (groups : List PairGroup) (next_gid : ℕ) : Type 0 where
  pub first : IsSomeAnd (slice_get groups 0) IsDefault
  pub gids : GidsDiffer groups
  pub serial : All (λ (g : PairGroup). g.gid.0 < next_gid) groups
  pub names : AllPairs (λ (a b : PairGroup). a.name ≢ b.name) groups
  pub modes : All (λ (g : PairGroup). is_counted_mode g.mode ≡ true) groups

-- the classes exist, and no two groups have the same
pub record HaveClasses (m : Machines) (groups : List PairGroup) : Type 0 where
  pub exist : All (λ (g : PairGroup). g.class < class_count m) groups
  pub apart : AllPairs (λ (a b : PairGroup). a.class ≢ b.class) groups

-- ---- masks

-- whether the masks of two sides part the same cache
abbrev pub is_beside : Option Parameters → Side → Side → Bool
is_beside None a b = true
is_beside (Some l2) a b = is_same_side a b

-- two groups, where one is exclusive: in each domain, their masks on sides that part the same cache do not meet
abbrev pub KeepApart : Machines → PairGroup → PairGroup → Type 0
KeepApart m a b =
    (one other : Side) (domain : ℕ) → is_beside m.l2 one other ≡ true → domain < (side_machine m one).domains
    → (a.mode ≡ Exclusive) ⊎ (b.mode ≡ Exclusive) → AreApart (mask_in one domain a) (mask_in other domain b)

-- each mask of a group is valid for its side
abbrev pub HasValid : Machines → PairGroup → Type 0
HasValid m g = (side : Side) (domain : ℕ) → domain < (side_machine m side).domains → IsValid (side_machine m side) (mask_in side domain g)

-- the masks of an exclusive group meet no shareable bit
abbrev pub OffShareable : Machines → PairGroup → Type 0
OffShareable m g = (side : Side) (domain : ℕ) → domain < (side_machine m side).domains → g.mode ≡ Exclusive → AreApart (mask_in side domain g) (side_machine m side).shareable

-- a group has a place for a mask in each domain, on both sides
abbrev pub HasPlaces : PairGroup → Type 0
HasPlaces g = (side : Side) → length (masks_on side g) ≡ 8

-- each mask is valid, and those that part the same cache keep to the modes
pub record HaveMasks (m : Machines) (groups : List PairGroup) : Type 0 where
  pub places : All HasPlaces groups
  pub valid : All (HasValid m) groups
  pub apart : AllPairs (KeepApart m) groups
  pub off_shareable : All (OffShareable m) groups

-- ---- tasks

-- a group is there
abbrev pub IsGroup : List PairGroup → Gid → Type 0
IsGroup groups gid = list_any (has_gid gid) groups ≡ true

-- the tasks rise, and each has a group
pub record AreBound (groups : List PairGroup) (tasks : List Binding) : Type 0 where
  pub rising : AreRising tasks
  pub each : All (λ (b : Binding). IsGroup groups b.control) tasks

-- ---- a sound state

pub record IsSound (m : Machines) (s : PairState) : Type 0 where
  pub named : AreNamed s.groups s.next_gid
  pub classes : HaveClasses m s.groups
  pub masks : HaveMasks m s.groups
  pub tasks : AreBound s.groups s.tasks
