-- What the other groups use of a side, and what is free for a new group.
-- (Intel SDM volume 3: the data and the code mask of all classes part the same cache. Kernel documentation, `mode`.)
use Rattle.std.specs.Prelude.{ℕ, Bool, not, ◌&&◌, ◌==◌, find, is_none, List, [], ◌∷◌, ◌++◌, map, filter, Option, Some, None}
use Rattle.std.specs.List.{flat_map, list_any, range_with_len}
use Rattle.std.specs.Option.{option_map}
use Rattle.group_tree.specs.Records.{is_mode}
use Rattle.machine.specs.declared.parameters.Parameters.{Parameters}
use Rattle.mode_rules.specs.StartingWays.{initial_ways}
use Rattle.mode_rules.specs.declared.domain_use.DomainUse.{DomainUse}
use Rattle.pair_law.specs.State.{PairGroup, PairState, has_gid, mask_in}
use Rattle.pair_text.specs.Values.{Machines, class_count, side_machine}
use Rattle.pair_text.specs.declared.side.Side.{Side}
use Rattle.pair_text.specs.declared.side.Side.TheVariants.{First, Second}
use Rattle.rc_base.specs.declared.names.Gid.{Gid}
use Rattle.rc_base.specs.declared.names.Mode.{Mode}
use Rattle.rc_base.specs.declared.names.Mode.TheVariants.{Exclusive, Shareable}
use Rattle.tree_law.specs.Space.{geometry_of, mask_of, union_of}

-- ---- sides and domains

-- the sides whose masks part the same cache as a side: both without an L2, and else that side alone
abbrev pub sides_beside : Option Parameters → Side → List Side
sides_beside None side = First ∷ Second ∷ []
sides_beside (Some l2) side = side ∷ []

-- a side in a domain
pub record Place : Type 0 where
  pub side : Side
  pub domain : ℕ

-- the domains of a side, rising
abbrev pub places_on : Machines → Side → List Place
places_on m side = map (λ d. record { side = side; domain = d }) (range_with_len 0 (side_machine m side).domains)

-- the domains of both sides, the first side first
abbrev pub places_of : Machines → List Place
places_of m = places_on m First ++ places_on m Second

-- ---- the others

-- whether a group is another than this one, and in this mode
abbrev pub is_other_in : Option Gid → Mode → PairGroup → Bool
is_other_in None mode g = is_mode mode g.mode
is_other_in (Some gid) mode g = not (has_gid gid g) && is_mode mode g.mode

-- a group's masks on some sides of a domain
abbrev pub masks_of : List Side → ℕ → PairGroup → List ℕ
masks_of sides domain g = map (λ side. mask_in side domain g) sides

-- the masks of the others in a mode that part the same cache
abbrev pub masks_of_others : Machines → PairState → Option Gid → Mode → Place → List ℕ
masks_of_others m s gid mode place = flat_map (masks_of (sides_beside m.l2 place.side) place.domain) (filter (is_other_in gid mode) s.groups)

-- what all groups but one use of a cache; all of them where none is named
abbrev pub used_in : Machines → PairState → Option Gid → Place → DomainUse
used_in m s gid place = record {
  hardware = (side_machine m place.side).shareable;
  shared = union_of (masks_of_others m s gid Shareable place);
  exclusive = union_of (masks_of_others m s gid Exclusive place);
  region = 0;
}

-- ---- what is free

-- the lowest free class
abbrev pub class_is_free : PairState → ℕ → Bool
class_is_free s id = not (list_any (λ (g : PairGroup). g.class == id) s.groups)

abbrev pub free_class : Machines → PairState → Option ℕ
free_class m s = find (class_is_free s) (range_with_len 0 (class_count m))

-- a new group's mask, where there is space; without an L2 it is the same on both sides
abbrev pub initial_mask : Machines → PairState → Place → Option ℕ
initial_mask m s place = option_map mask_of (initial_ways (geometry_of (side_machine m place.side)) (used_in m s None place))

-- the first domain without space
abbrev pub full_place : Machines → PairState → Option Place
full_place m s = find (λ place. is_none (initial_mask m s place)) (places_of m)
