-- The regions of pseudo-locked groups.
-- (Kernel documentation, "Cache Pseudo-Locking".)
-- (For functions and proofs: no promise of the program stands on it.)
use Rattle.std.specs.Prelude.{◌≡◌, ◌≢◌, ℕ, ◌<◌, Bool, true, false, ◌==◌, if◌then◌else◌, AllPairs, All, IfSome, List, length, filter, Option, Some, None, slice_get}
use Rattle.std.specs.List.{list_any}
use Rattle.group_tree.specs.Records.{has_gid, has_mode, mask_in}
use Rattle.group_tree.specs.declared.group.Group.{Group}
use Rattle.machine.specs.declared.parameters.Parameters.{Parameters}
use Rattle.rc_base.specs.declared.names.Gid.{Gid}
use Rattle.rc_base.specs.declared.names.Mode.TheVariants.{Locked}
use Rattle.tree_law.specs.Counted.{is_counted}
use Rattle.tree_law.specs.Masks.{AreApart, IsValid}
use Rattle.pseudo_lock.specs.declared.region.Region.{Region}
use Rattle.pseudo_lock.specs.Regions.{first_line_of}

-- ---- regions and groups

-- whether a region is this group's
abbrev pub has_region_of : Gid → Option Region → Bool
has_region_of gid None = false
has_region_of gid (Some r) = r.gid.0 == gid.0

-- in the region's domain, a counted group's mask does not meet the region
abbrev pub OffCounted : ℕ → ℕ → Group → Type 0
OffCounted domain mask g = is_counted g ≡ true → AreApart mask (mask_in domain g)

-- the region of a pseudo-locked control group, which has that mask in the region's domain
abbrev pub holds_region : ℕ → Region → Group → Bool
holds_region domain r g = if has_gid r.gid g then (if has_mode Locked g then mask_in domain g == r.mask else false) else false

-- a lawful region of a domain: it is of that domain, has a valid mask, meets no shareable bit and no mask of a counted group,
-- and its group is a pseudo-locked control group
pub record IsRegion (m : Parameters) (groups : List Group) (domain : ℕ) (r : Region) : Type 0 where
  pub own : r.domain ≡ domain
  pub valid : IsValid m r.mask
  pub off_shareable : AreApart r.mask m.shareable
  pub off_counted : All (OffCounted domain r.mask) groups
  pub held : list_any (holds_region domain r) groups ≡ true

-- a pseudo-locked control group has one region
abbrev pub HasOneRegion : List (Option Region) → Group → Type 0
HasOneRegion regions g = has_mode Locked g ≡ true → length (filter (has_region_of g.gid) regions) ≡ 1

-- in a domain without a region of this pseudo-locked group, its mask is 0
abbrev pub HasNoOther : List (Option Region) → Group → Type 0
HasNoOther regions g = has_mode Locked g ≡ true → (domain : ℕ) → domain < length regions → (r : Option Region) → slice_get regions domain ≡ Some r → has_region_of g.gid r ≡ false → mask_in domain g ≡ 0

-- each domain has a place, each region there is lawful, and a pseudo-locked group has one region and no other ways
pub record HaveRegions (m : Parameters) (groups : List Group) (regions : List (Option Region)) : Type 0 where
  pub each : length regions ≡ m.domains
  pub lawful : (domain : ℕ) (r : Region) → slice_get regions domain ≡ Some (Some r) → IsRegion m groups domain r
  pub once : All (HasOneRegion regions) groups
  pub no_other : All (HasNoOther regions) groups

-- ---- the lines of regions

-- a region has the first line of a lock that was accepted
abbrev pub IsPlaced : ℕ → Region → Type 0
IsPlaced locks r = (k : ℕ) × (k < locks) × (r.first_line ≡ first_line_of k)

-- two regions have different first lines
abbrev pub LinesDiffer : Option Region → Option Region → Type 0
LinesDiffer (Some a) (Some b) = a.first_line ≢ b.first_line
LinesDiffer a b = Unit {0}

-- each region has the first line of a lock of its own
pub record HaveLines (regions : List (Option Region)) (locks : ℕ) : Type 0 where
  pub placed : All (λ (o : Option Region). IfSome o (IsPlaced locks)) regions
  pub differ : AllPairs LinesDiffer regions
