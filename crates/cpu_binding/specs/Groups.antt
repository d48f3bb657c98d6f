-- CPUs and their groups: the list has the groups of CPU 0, CPU 1 and so on.
use Rattle.std.specs.Prelude.{◌≡◌, ℕ, ◌<◌, ◌≤◌, Bool, true, false, ◌==◌, List, length, Option, Some, None, slice_index_or, if◌then◌else◌}
use Rattle.rc_base.specs.Gids.{default_gid}
use Rattle.rc_base.specs.declared.names.Gid.{Gid}
use Rattle.cpu_binding.specs.declared.groups.CpuGroups.{CpuGroups}
use Rattle.cpu_binding.specs.Sets.{has_cpu}

-- in a control group, and in no monitor group of it
abbrev pub joined : Gid → CpuGroups
joined group = record { control = group; monitor = None }

-- a CPU that is in no group but the default group
abbrev pub opening_cpu : CpuGroups
opening_cpu = joined default_gid

-- whether the group is the CPU's control group
abbrev pub has_control : Gid → CpuGroups → Bool
has_control group g = g.control.0 == group.0

-- whether a group is named, and it is this one
abbrev pub is_group : Gid → Option Gid → Bool
is_group group None = false
is_group group (Some monitor) = monitor.0 == group.0

-- whether the group is the CPU's monitor group
abbrev pub has_monitor : Gid → CpuGroups → Bool
has_monitor group g = is_group group g.monitor

-- A control group takes these CPUs: they leave their former groups and its own monitor groups; the CPUs that it drops go to the
-- default group.
abbrev pub after_control : Gid → ℕ → ℕ → CpuGroups → CpuGroups
after_control group set cpu g = if has_cpu set cpu then joined group else if has_control group g then opening_cpu else g

-- A monitor group takes these CPUs of its parent: they leave its siblings; the CPUs that it drops count at the parent.
abbrev pub after_monitor : Gid → ℕ → ℕ → CpuGroups → CpuGroups
after_monitor group set cpu g =
    if has_cpu set cpu then record { control = g.control; monitor = Some group } else
    if has_monitor group g then joined g.control else g

-- (For proofs.) each CPU's groups after a change, by its number and its groups before
pub record Changes (how : ℕ → CpuGroups → CpuGroups) (before after : List CpuGroups) : Type 0 where
  pub count : length after ≡ length before
  pub each : (cpu : ℕ) (d : CpuGroups) → cpu < length before → slice_index_or after cpu d ≡ how cpu (slice_index_or before cpu d)

-- (For proofs.) some CPU of the default group is not in the set
abbrev pub DropsSome : ℕ → List CpuGroups → Type 0
DropsSome set groups = (cpu : ℕ) × (cpu < length groups) × (has_control default_gid (slice_index_or groups cpu opening_cpu) ≡ true) × (has_cpu set cpu ≡ false)

-- (For proofs.) some CPU of the set is not the parent's
abbrev pub HasOthers : Gid → ℕ → List CpuGroups → Type 0
HasOthers parent set groups = (cpu : ℕ) × (cpu < length groups) × (has_control parent (slice_index_or groups cpu opening_cpu) ≡ false) × (has_cpu set cpu ≡ true)

-- (For proofs.) the CPUs of the set are those that pass the test
pub record IsSetOf (test : CpuGroups → Bool) (groups : List CpuGroups) (set : ℕ) : Type 0 where
  pub each : (cpu : ℕ) (d : CpuGroups) → cpu < length groups → has_cpu set cpu ≡ test (slice_index_or groups cpu d)
  pub no_more : (cpu : ℕ) → length groups ≤ cpu → has_cpu set cpu ≡ false
