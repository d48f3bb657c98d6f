use Rattle.std.proofs.Common.{bit_or, ap₂, ◌∙◌}
use Rattle.pair_tree.proofs.MaskUnions.{union_of-levels, union_of-shared}
use Rattle.pair_tree.proofs.uses.ways_beside.Goals as goal

pub returns-then-are_levels : goal.returns-then-are_levels
returns-then-are_levels c = c.mask_in.ensures ∙ union_of-levels c.args.m.now.l2 c.args.side c.args.domain c.args.g.now c.are_levels.result c.are_levels.ensures c.if-are_levels.true

pub returns-else-are_levels : goal.returns-else-are_levels
returns-else-are_levels c =
    ap₂ bit_or c.mask_in-else-are_levels.ensures c.mask_in-else-are_levels-2.ensures ∙ union_of-shared c.args.m.now.l2 c.args.side c.args.domain c.args.g.now c.are_levels.result c.are_levels.ensures c.if-are_levels.false
