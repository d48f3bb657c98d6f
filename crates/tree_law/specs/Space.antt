-- What is free for a new group: a class, an RMID, and ways in each domain.
use Rattle.std.specs.Prelude.{ℕ, ◌+◌, ◌^◌, bit_or, Bool, not, ◌&&◌, ◌==◌, find, is_none, List, [], ◌∷◌, Option, Some, None, option_map, slice_index_or, false}
use Rattle.std.specs.List.{list_any, range_with_len}
use Rattle.std.specs.Option.{option_map_or}
use Rattle.cbm.specs.declared.geometry.Geometry.{Geometry}
use Rattle.group_tree.specs.Others.{masks_of_others}
use Rattle.group_tree.specs.declared.group.Group.{Group}
use Rattle.hw_ids.specs.Ids.{contains}
use Rattle.machine.specs.declared.parameters.Parameters.{Parameters}
use Rattle.mode_rules.specs.StartingWays.{initial_ways}
use Rattle.mode_rules.specs.declared.domain_use.DomainUse.{DomainUse}
use Rattle.rc_base.specs.declared.names.Gid.{Gid}
use Rattle.rc_base.specs.declared.names.Mode.TheVariants.{Exclusive, Shareable}
use Rattle.tree_law.specs.State.{State}
use Rattle.pseudo_lock.specs.declared.region.Region.{Region}

-- whether an optional id is this one
abbrev pub is_id : ℕ → Option ℕ → Bool
is_id id None = false
is_id id (Some other) = other == id

-- a class is free where no group has it
abbrev pub class_is_free : State → ℕ → Bool
class_is_free s id = not (list_any (λ (g : Group). is_id id g.class) s.groups)

-- an RMID is free where no group has it and it is not in limbo
abbrev pub rmid_is_free : State → ℕ → Bool
rmid_is_free s id = not (list_any (λ (g : Group). is_id id g.rmid) s.groups) && not (contains id s.limbo)

-- the lowest free class
abbrev pub free_class : Parameters → State → Option ℕ
free_class m s = find (class_is_free s) (range_with_len 0 m.classes)

-- the lowest free RMID
abbrev pub free_rmid : Parameters → State → Option ℕ
free_rmid m s = find (rmid_is_free s) (range_with_len 0 m.rmids)

-- ---- ways

-- what masks may be on a machine: how many ways there are, how long a run has to be, and whether there may be gaps
abbrev pub geometry_of : Parameters → Geometry
geometry_of m = record { len = m.ways; min = m.min; sparse = m.sparse }

-- the ways of all these masks
abbrev pub union_of : List ℕ → ℕ
union_of [] = 0
union_of (mask ∷ masks) = bit_or mask (union_of masks)

-- the region of a domain
abbrev pub region_in : List (Option Region) → ℕ → Option Region
region_in regions domain = slice_index_or regions domain None

-- the ways of the region of a domain, and none where there is no region
abbrev pub region_mask : List (Option Region) → ℕ → ℕ
region_mask regions domain = option_map_or (λ (r : Region). r.mask) (region_in regions domain) 0

-- what all groups but one use of a domain's cache, and its region; all of them where none is named
abbrev pub used_in : Parameters → State → Option Gid → ℕ → DomainUse
used_in m s gid domain = record {
  hardware = m.shareable;
  shared = union_of (masks_of_others gid Shareable domain s.groups);
  exclusive = union_of (masks_of_others gid Exclusive domain s.groups);
  region = region_mask s.regions domain;
}

-- the mask of these ways
abbrev pub mask_of : List ℕ → ℕ
mask_of [] = 0
mask_of (way ∷ ways) = 2 ^ way + mask_of ways

-- a new group's mask in a domain, where there is space
abbrev pub initial_mask : Parameters → State → ℕ → Option ℕ
initial_mask m s domain = option_map mask_of (initial_ways (geometry_of m) (used_in m s None domain))

-- the least domain that has no space
abbrev pub full_domain : Parameters → State → Option ℕ
full_domain m s = find (λ domain. is_none (initial_mask m s domain)) (range_with_len 0 m.domains)
