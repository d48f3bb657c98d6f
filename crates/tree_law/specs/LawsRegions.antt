-- Laws of regions.
-- (For functions and proofs: no promise of the program stands on it.)
use Rattle.std.specs.Prelude.{◌≡◌, ◌≢◌, ℕ, ◌+◌, ◌%◌, ◌^◌, ◌<◌, true, false, All, List, Option, Some, None}
use Rattle.cbm.specs.Masks.{IsUnion}
use Rattle.group_tree.specs.Others.{masks_of_others}
use Rattle.group_tree.specs.Records.{has_gid, has_mode}
use Rattle.group_tree.specs.declared.group.Group.{Group}
use Rattle.machine.specs.Ranges.{InRange}
use Rattle.machine.specs.declared.parameters.Parameters.{Parameters}
use Rattle.rc_base.specs.declared.names.Gid.{Gid}
use Rattle.rc_base.specs.declared.names.Mode.TheVariants.{Locked}
use Rattle.script_ops.specs.declared.limits.TheConstants.{MOST_WEIGHT}
use Rattle.tree_law.specs.LawsFollows.{lines_of}
use Rattle.tree_law.specs.Sound.{IsSound}
use Rattle.tree_law.specs.Space.{region_in, region_mask}
use Rattle.tree_law.specs.State.{State}
use Rattle.pseudo_lock.specs.declared.region.Region.{Region}

-- no group is named, or the named one is not pseudo-locked
abbrev pub IsUnlocked : Option Gid → List Group → Type 0
IsUnlocked None groups = Unit {0}
IsUnlocked (Some gid) groups = All (λ (g : Group). has_gid gid g ≡ true → has_mode Locked g ≡ false) groups

-- in a sound tree the masks of the other groups that are pseudo-locked have just the ways of the domain's region
abbrev pub RegionsAgree : Type 0
RegionsAgree = (m : Parameters) (s : State) (gid : Option Gid) (domain : ℕ) → IsSound m s → IsUnlocked gid s.groups → domain < m.domains → IsUnion (region_mask s.regions domain) (masks_of_others gid Locked domain s.groups)

-- the regions of two domains have different first lines
abbrev pub FirstLinesDiffer : Type 0
FirstLinesDiffer = (m : Parameters) (s : State) (one other : ℕ) (a b : Region) → IsSound m s → one ≢ other → region_in s.regions one ≡ Some a → region_in s.regions other ≡ Some b → a.first_line ≢ b.first_line

-- a first line is a multiple of the number of sets: it is in set 0
abbrev pub FirstLinesAreWhole : Type 0
FirstLinesAreWhole = (m : Parameters) (s : State) (domain : ℕ) (r : Region) → InRange m → IsSound m s → region_in s.regions domain ≡ Some r → r.first_line % m.sets ≡ 0

-- with fewer locks than a script may have ops, the number of each line of a region is below 2^60, so none wraps
abbrev pub LinesAreBounded : Type 0
LinesAreBounded = (m : Parameters) (s : State) (domain : ℕ) (r : Region) (offset : ℕ) → InRange m → IsSound m s → s.locks < MOST_WEIGHT → region_in s.regions domain ≡ Some r → offset < lines_of m r → r.first_line + offset < 2 ^ 60
