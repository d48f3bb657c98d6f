-- The registers of the masks, by class and side.
-- With code and data prioritization, register 2n of a domain has the data mask of class n, and register 2n + 1 its code mask (Intel SDM
-- volume 3, code and data prioritization).
use Rattle.std.specs.Prelude.{ℕ, ◌+◌, ◌*◌, ◌/◌, ◌%◌, Bool, ◌==◌, find, Option, if◌then◌else◌}
use Rattle.std.specs.Option.{option_map, option_map_or}
use Rattle.pair_law.specs.State.{PairGroup, PairState, group_of, mask_in}
use Rattle.pair_text.specs.declared.side.Side.{Side}
use Rattle.pair_text.specs.declared.side.Side.TheVariants.{First, Second}
use Rattle.rc_base.specs.declared.names.Gid.{Gid}

-- the side of a register, by its number
abbrev pub side_of_register : ℕ → Side
side_of_register index = if index % 2 == 0 then First else Second

-- the register of a class on a side
abbrev pub register_of : ℕ → Side → ℕ
register_of class First = 2 * class
register_of class Second = 2 * class + 1

-- whether a group has this class
abbrev pub has_class : ℕ → PairGroup → Bool
has_class class g = class == g.class

-- what a register holds, where a group has its class
unfoldable pub register : PairState → ℕ → ℕ → Option ℕ
register s domain index = option_map (mask_in (side_of_register index) domain) (find (has_class (index / 2)) s.groups)

-- the class of a group
abbrev pub class_of : PairState → Gid → ℕ
class_of s gid = option_map_or (λ (g : PairGroup). g.class) (group_of s gid) 0

-- the mask of a group on a side
abbrev pub mask_of_group : PairState → Side → ℕ → Gid → ℕ
mask_of_group s side domain gid = option_map_or (mask_in side domain) (group_of s gid) 0
