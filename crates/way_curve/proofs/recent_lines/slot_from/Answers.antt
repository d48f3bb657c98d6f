use Rattle.std.proofs.Common.{◌-◌, sym, ◌∙◌, arith}
use Rattle.way_curve.proofs.SlotWords.{position_from-here, position_from-holes, position_from-next}
use Rattle.way_curve.proofs.recent_lines.slot_from.Goals as goal

pub returns-then-has_line-clause-slot : goal.returns-then-has_line-clause-slot
returns-then-has_line-clause-slot c =
    sym (c.loop-slot.invariant.none ∙ position_from-here c.args.holes c.args.lines.now c.args.line c.loop-slot.slot (omega (arith, c.loop-slot-test.true, c.end_of_lines-slot-end.ensures.within)) (sym c.has_line.ensures ∙ c.if-has_line.true))

pub loop-slot-preserved : goal.loop-slot-preserved
loop-slot-preserved c = record {
  within = omega (arith, c.loop-slot-test.true, c.end_of_lines-slot-end.ensures.within);
  none = c.loop-slot.invariant.none
      ∙ position_from-next c.args.holes c.args.lines.now c.args.line c.loop-slot.slot (omega (arith, c.loop-slot-test.true, c.end_of_lines-slot-end.ensures.within)) (sym c.has_line.ensures ∙ c.if-has_line.false);
}

pub returns-clause-slot : goal.returns-clause-slot
returns-clause-slot c =
    let slot = c.loop-slot.slot in
    sym (c.loop-slot.invariant.none
    ∙ position_from-holes c.args.holes c.args.lines.now c.args.line (32 - slot) slot (omega (arith, c.loop-slot.invariant.within))
    (λ k le lt. c.end_of_lines-slot-end.ensures.holes k (omega (arith, le, c.loop-slot-test.false)) lt))
