use Rattle.std.proofs.Common.{◌+◌, ◌-◌, ◌*◌, ◌%◌, ◌^◌, bit_or, length, arith}
use Rattle.way_fill.proofs.EqualWays.{HasEqual-none, HasEqual-next, HasEqual-whole}
use Rattle.way_fill.proofs.lanes.equal_by_lanes.Goals as goal

pub loop-first-init : goal.loop-first-init
loop-first-init c = record { within = omega arith; is = HasEqual-none c.args.lines.now c.args.line }

pub loop-first-preserved : goal.loop-first-preserved
loop-first-preserved c = record {
  within = omega arith;
  is = HasEqual-next c.args.lines.now c.args.line c.loop-first.ways c.equal_lanes.result c.loop-first.first c.loop-first.first 8 (record {
    before = c.loop-first.invariant.is;
    bits = c.equal_lanes.ensures.ways;
    joins = omega arith;
    longer = omega arith;
    room = omega arith;
  });
}

pub returns : goal.returns
returns c way =
    HasEqual-whole c.args.lines.now c.args.line (bit_or c.loop-first.ways (c.equal_lanes-2.result * 2 ^ (length c.args.lines.now - 8) % 2 ^ 32)) (length c.args.lines.now - 8 + 8) (HasEqual-next c.args.lines.now c.args.line c.loop-first.ways c.equal_lanes-2.result c.loop-first.first (length c.args.lines.now - 8) 8 (record {
      before = c.loop-first.invariant.is;
      bits = c.equal_lanes-2.ensures.ways;
      joins = omega arith;
      longer = omega arith;
      room = omega arith;
    })) (omega arith) way
