-- Pseudo-locked regions: at most one in each domain, with first lines that differ.
-- (Kernel documentation, "Cache Pseudo-Locking"; one region for each domain and its lines are this project's profile.)
use Rattle.std.specs.Prelude.{◌≡◌, ℕ, ◌+◌, ◌*◌, ◌^◌, ◌<◌, ◌≤◌, Bool, ◌==◌, List, length, map, replicate, slice_set, slice_index_or, Option, Some, None, if◌then◌else◌}
use Rattle.rc_base.specs.declared.names.Gid.{Gid}
use Rattle.pseudo_lock.specs.declared.regions.TheConstants.{DOMAINS, MAX_PLACED}
use Rattle.pseudo_lock.specs.declared.region.Region.{Region}

-- (For proofs.) the places of domain 0, domain 1 and so on, each with its region or none; and how many regions were placed so far
pub record RegionTable : Type 0 where
  pub places : List (Option Region)
  pub placed : ℕ

-- (For proofs.) no region, and none placed so far
abbrev pub unused : RegionTable
unused = record { places = replicate DOMAINS None; placed = 0 }

-- (For proofs.) the region of a domain
abbrev pub region_in : List (Option Region) → ℕ → Option Region
region_in places domain = slice_index_or places domain None

-- ---- placing a region

-- the first line of the region with this number, counted over all that were placed, from 0
abbrev pub first_line_of : ℕ → ℕ
first_line_of number = 2 ^ 52 + number * 2 ^ 32

-- (For proofs.) the region that a group would get: its number is how many were placed before
abbrev pub next_region : RegionTable → Gid → ℕ → ℕ → Region
next_region t gid domain mask = record { gid = gid; domain = domain; mask = mask; first_line = first_line_of t.placed }

-- (For proofs.) with this region placed in its domain
abbrev pub with_region : Region → RegionTable → RegionTable
with_region r t = record { places = slice_set t.places r.domain (Some r); placed = t.placed + 1 }

-- ---- removing regions

-- (For proofs.) whether the group keeps the region
abbrev pub has_gid : Gid → Region → Bool
has_gid gid r = r.gid.0 == gid.0

-- (For proofs.) a place, where the region of a group goes
abbrev pub without : Gid → Option Region → Option Region
without gid None = None
without gid (Some r) = if has_gid gid r then None else Some r

-- (For proofs.) without the regions of a group; what was placed is still counted
abbrev pub without_group : Gid → RegionTable → RegionTable
without_group gid t = record t { places = map (without gid) t.places }

-- ---- what always holds

-- (For proofs.) the first line of one of the regions placed so far
pub record IsNumbered (placed first_line : ℕ) : Type 0 where
  pub number : ℕ
  pub counted : number < placed
  pub line : first_line ≡ first_line_of number

-- (For proofs.) each region is in the place of its domain, and has a first line of its own, which is that of one of the regions
-- placed so far
pub record IsLawful (t : RegionTable) : Type 0 where
  pub each : length t.places ≡ DOMAINS
  pub limit : t.placed ≤ MAX_PLACED
  pub own : (domain : ℕ) (r : Region) → region_in t.places domain ≡ Some r → r.domain ≡ domain
  pub numbered : (domain : ℕ) (r : Region) → region_in t.places domain ≡ Some r → IsNumbered t.placed r.first_line
  pub differ : (domain other : ℕ) (r s : Region) → region_in t.places domain ≡ Some r → region_in t.places other ≡ Some s → r.first_line ≡ s.first_line → domain ≡ other
