-- Laws of what follows a command in the slices.
-- (For functions and proofs: no promise of the program stands on it.)
use Rattle.std.specs.Prelude.{◌≡◌, ℕ, ◌+◌, ◌*◌, ◌<◌, ◌≤◌, All, length, Some}
use Rattle.cbm.specs.Masks.{ways_of}
use Rattle.machine.specs.Ranges.{InRange}
use Rattle.machine.specs.declared.parameters.Parameters.{Parameters}
use Rattle.script_ops.specs.Fits.{Fits}
use Rattle.script_ops.specs.declared.op.Op.{Op}
use Rattle.tree_law.specs.Masks.{IsValid}
use Rattle.tree_law.specs.Sound.{IsSound}
use Rattle.tree_law.specs.Space.{region_in}
use Rattle.tree_law.specs.State.{State, tasks_of}
use Rattle.pseudo_lock.specs.declared.region.Region.{Region}
use Rattle.tree_law.specs.Steps.{after, follow_domain}
use Rattle.tree_law.specs.commands.Schemata.{next_first_line}
use Rattle.tree_law.specs.declared.follow.Follow.{Follow}
use Rattle.tree_law.specs.declared.follow.Follow.TheVariants.{Raise, Flush, Lock, Touch, Drop}

-- what follows a command that fits in a sound tree is of domains of the machine
abbrev pub FollowsExist : Type 0
FollowsExist = (m : Parameters) (s : State) (k : ℕ) (op : Op) → InRange m → IsSound m s → Fits m (tasks_of s) op → All (λ (f : Follow). follow_domain f < m.domains) (after m s k op)

-- how many lines a region has
abbrev pub lines_of : Parameters → Region → ℕ
lines_of m r = m.sets * length (ways_of r.mask)

-- a line is one of a region's
abbrev pub IsLineOf : Parameters → Region → ℕ → Type 0
IsLineOf m r line = (r.first_line ≤ line) × (line < r.first_line + lines_of m r)

-- a lock is of a valid mask, and takes the next first line; a touch is of a line of its domain's region; a drop is of any line
abbrev pub IsLawful : Parameters → State → Follow → Type 0
IsLawful m s (Raise domain) = Unit {0}
IsLawful m s (Flush domain) = Unit {0}
IsLawful m s (Lock domain mask first_line) = IsValid m mask × (first_line ≡ next_first_line s)
IsLawful m s (Touch tag line) = (r : Region) × (region_in s.regions tag.domain ≡ Some r) × IsLineOf m r line
IsLawful m s (Drop domain line) = Unit {0}

-- all that follows a command is lawful
abbrev pub FollowsAreLawful : Type 0
FollowsAreLawful = (m : Parameters) (s : State) (k : ℕ) (op : Op) → InRange m → IsSound m s → Fits m (tasks_of s) op → All (IsLawful m s) (after m s k op)
