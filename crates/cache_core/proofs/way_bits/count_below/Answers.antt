use Rattle.std.proofs.Common.{◌≡◌, sym, ap, arith}
use Rattle.cbm.specs.Masks.{has_way}
use Rattle.lists.specs.Sums.{one_if}
use Rattle.cache_core.proofs.RegionLoads.{ways_below-le, ways_below-next}
use Rattle.cache_core.proofs.way_bits.count_below.Goals as goal
use Rattle.cache_core.proofs.way_bits.count_below.Goals.{then-holds, else-holds}

pub overflow_add-count : goal.overflow_add-count
overflow_add-count c = omega (arith, c.loop-way.invariant, ways_below-le c.args.word c.loop-way.way, c.loop-way-test.true)

pub loop-way-preserved : goal.loop-way-preserved
loop-way-preserved c = elim c.if-holds.branch [
  | then-holds w ↦
      let one : one_if (has_way c.args.word c.loop-way.way) ≡ 1 = ap one_if (sym w.if-holds.ensures) in
      omega (arith, w.count-is, c.loop-way.invariant, ways_below-next c.args.word c.loop-way.way, one)
  | else-holds w ↦
      let none : one_if (has_way c.args.word c.loop-way.way) ≡ 0 = ap one_if (sym w.if-holds.ensures) in
      omega (arith, w.count-is, c.loop-way.invariant, ways_below-next c.args.word c.loop-way.way, none)
]
