-- Laws of what an access has.
-- (For functions and proofs: no promise of the program stands on it.)
use Rattle.std.specs.Prelude.{◌≡◌, ℕ, ◌<◌, ◌^◌, Bool, true, false, ◌==◌, List, Option, Ok, option_map}
use Rattle.std.specs.List.{list_any}
use Rattle.cbm.specs.Validity.{checked}
use Rattle.group_tree.specs.declared.group.Group.{Group}
use Rattle.machine.specs.Maps.{domain_of}
use Rattle.machine.specs.Ranges.{InRange}
use Rattle.machine.specs.declared.parameters.Parameters.{Parameters}
use Rattle.path_names.specs.declared.files.FileKind.TheVariants.{Cpus, CpusList, Tasks}
use Rattle.path_names.specs.declared.path_ref.PathRef.TheVariants.{File}
use Rattle.rc_base.specs.declared.names.Mode.{Mode}
use Rattle.script_ops.specs.declared.op.Op.{Op}
use Rattle.script_ops.specs.declared.op.Op.TheVariants as ops
use Rattle.task_binding.specs.Bindings.{binding_of}
use Rattle.tree_law.specs.Existing.{group_of}
use Rattle.tree_law.specs.Masks.{IsValid}
use Rattle.tree_law.specs.Resolving.{Owned, cpu_groups_of, resolve}
use Rattle.tree_law.specs.Sound.{IsSound}
use Rattle.tree_law.specs.Space.{geometry_of}
use Rattle.tree_law.specs.State.{State}
use Rattle.tree_law.specs.Steps.{after, next}
use Rattle.tree_law.specs.declared.follow.Follow.{Follow}
use Rattle.tree_law.specs.declared.follow.Follow.TheVariants.{Raise, Flush, Lock, Touch, Drop}

-- an access whose class and RMID are the machine's, and whose mask is valid
pub record IsGood (m : Parameters) (o : Owned) : Type 0 where
  pub class : o.class < m.classes
  pub rmid : o.rmid < m.rmids
  pub mask : IsValid m o.mask

-- in a sound tree every access is such a one
abbrev pub TagsAreGood : Type 0
TagsAreGood = (m : Parameters) (s : State) (task cpu : ℕ) → IsSound m s → cpu < m.cpus → domain_of m cpu < m.domains → IsGood m (resolve m s task cpu)

-- ---- masks

-- a valid mask has no way past the last
abbrev pub ValidIsBounded : Type 0
ValidIsBounded = (m : Parameters) (mask : ℕ) → IsValid m mask → mask < 2 ^ m.ways

-- a mask of 64 bits that passes the test is valid
abbrev pub CheckedIsValid : Type 0
CheckedIsValid = (m : Parameters) (mask : ℕ) → InRange m → mask < 2 ^ 64 → checked (geometry_of m) mask ≡ Ok mask → IsValid m mask

-- ---- changes

-- the mode of the owner of an access
abbrev pub mode_of_access : Parameters → State → ℕ → ℕ → Option Mode
mode_of_access m s task cpu = option_map (λ (g : Group). g.mode) (group_of s (resolve m s task cpu).owner)

-- an access has the same owner, class and mask in two states, and its owner the same mode
pub record IsSeenAs (m : Parameters) (s later : State) (task cpu : ℕ) : Type 0 where
  pub owner : (resolve m later task cpu).owner ≡ (resolve m s task cpu).owner
  pub class : (resolve m later task cpu).class ≡ (resolve m s task cpu).class
  pub mask : (resolve m later task cpu).mask ≡ (resolve m s task cpu).mask
  pub mode : mode_of_access m later task cpu ≡ mode_of_access m s task cpu

-- whether a follow-up raises, flushes or locks a domain
abbrev pub settles : ℕ → Follow → Bool
settles domain (Raise d) = d == domain
settles domain (Flush d) = d == domain
settles domain (Lock d mask first_line) = d == domain
settles domain (Touch tag line) = false
settles domain (Drop d line) = false

-- whether a command moves tasks or CPUs: a write to `tasks`, `cpus` or `cpus_list`
abbrev pub moves : Op → Bool
moves (ops.Write (File dir Tasks) text) = true
moves (ops.Write (File dir Cpus) text) = true
moves (ops.Write (File dir CpusList) text) = true
moves op = false

-- a task and a CPU are in the same groups in two states
abbrev pub StandsStill : State → State → ℕ → ℕ → Type 0
StandsStill s later task cpu = (binding_of task later.tasks ≡ binding_of task s.tasks) × (cpu_groups_of later cpu ≡ cpu_groups_of s cpu)

-- a command that does not raise, flush or lock the domain of an access, and does not move its task or its CPU, leaves its owner,
-- class and mask and the mode of its owner as they were
abbrev pub ChangesAreFollowed : Type 0
ChangesAreFollowed = (m : Parameters) (s : State) (k : ℕ) (op : Op) (looks : List ℕ) (task cpu : ℕ) → InRange m → IsSound m s → cpu < m.cpus
    → list_any (settles (domain_of m cpu)) (after m s k op) ≡ false → (moves op ≡ true → StandsStill s (next m s op looks).state task cpu) → IsSeenAs m s (next m s op looks).state task cpu
