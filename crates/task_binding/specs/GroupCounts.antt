-- (For proofs.) How many tasks each group has.
use Rattle.std.specs.Prelude.{◌≡◌, ℕ, ◌<◌, ◌≤◌, Bool, ◌==◌, List, [], ◌∷◌, length, All, AllPairs, if◌then◌else◌, nat_lt}
use Rattle.std.specs.List.{AllWithin, HoldsAt, count_by, sum_by}
use Rattle.rc_base.specs.Gids.{default_gid}
use Rattle.rc_base.specs.declared.names.Gid.{Gid}
use Rattle.task_binding.specs.declared.binding.Binding.{Binding}
use Rattle.task_binding.specs.declared.counts.GroupCount.{GroupCount}

-- how many tasks a group has
abbrev pub count_in : Gid → List GroupCount → ℕ
count_in group counts = sum_by (λ c. if c.group.0 == group.0 then c.tasks else 0) counts

-- how many tasks all groups have
abbrev pub count_in_all : List GroupCount → ℕ
count_in_all counts = sum_by (λ c. c.tasks) counts

-- 1 for the group itself, and 0 for any other
abbrev pub one_for : Gid → Gid → ℕ
one_for a b = if a.0 == b.0 then 1 else 0

-- each group that has tasks stands once, in the order of the groups' numbers
pub record IsTable (counts : List GroupCount) : Type 0 where
  pub rising : AllPairs (λ a b. a.group.0 < b.group.0) counts
  pub positive : All (λ c. 0 < c.tasks) counts

-- the group's count stands at this place
pub record IsCountAt (counts : List GroupCount) (group : Gid) (place : ℕ) : Type 0 where
  pub within : place < length counts
  pub there : HoldsAt (λ c. c.group.0 ≡ group.0) counts place

-- the group has no count, and it would stand at this place
pub record IsGapFor (counts : List GroupCount) (group : Gid) (place : ℕ) : Type 0 where
  pub within : place ≤ length counts
  pub below : AllWithin (λ c. c.group.0 < group.0) counts 0 place
  pub above : AllWithin (λ c. group.0 < c.group.0) counts place (length counts)

-- these are the counts of the bindings, in a table with room for one more group; the test says which group a binding is of
pub record AreCounts (is_of_group : Gid → Binding → Bool) (bindings : List Binding) (counts : List GroupCount) (capacity : ℕ) : Type 0 where
  pub table : IsTable counts
  pub each : (group : Gid) → count_in group counts ≡ count_by (is_of_group group) bindings
  pub all : count_in_all counts ≡ length bindings
  pub room : length bindings < capacity

-- the counts of so many tasks in the default group
abbrev pub opening_counts : ℕ → List GroupCount
opening_counts tasks = if nat_lt 0 tasks then record { group = default_gid; tasks = tasks } ∷ [] else []
