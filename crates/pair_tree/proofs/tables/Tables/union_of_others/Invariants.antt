use Rattle.std.proofs.Common.{◌≡◌, bit_or, drop, filter}
use Rattle.std.specs.List.{flat_map}
use Rattle.pair_law.specs.Others.{is_other_in, masks_of, sides_beside}
use Rattle.tree_law.specs.Space.{union_of}
use Rattle.pair_tree.proofs.tables.Tables.union_of_others.Given as goal

abbrev pub invariant-loop-g : goal.invariant-loop-g
invariant-loop-g l =
    bit_or l.ways (union_of (flat_map (masks_of (sides_beside l.m.l2 l.side) l.domain) (filter (is_other_in l.others.but l.others.mode) (drop l.g-index l.self.groups.items))))
    ≡ union_of (flat_map (masks_of (sides_beside l.m.l2 l.side) l.domain) (filter (is_other_in l.others.but l.others.mode) l.self.groups.items))
