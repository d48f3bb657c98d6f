use Rattle.std.proofs.Common.{arith, eqb, get_or}
use mir.Val.{bool_byte}
use Rattle.way_fill.proofs.EqualWays.{HasEqual-none, HasEqual-next, HasEqual-whole, IsNext-one}
use Rattle.way_fill.proofs.lanes.equal_one_by_one.Goals as goal

pub loop-way-init : goal.loop-way-init
loop-way-init c = HasEqual-none c.args.lines.now c.args.line

pub loop-way-preserved : goal.loop-way-preserved
loop-way-preserved c =
    rw c.from.ensures (HasEqual-next c.args.lines.now c.args.line c.loop-way.ways (bool_byte (eqb (get_or c.args.lines.now c.loop-way.way 0) c.args.line)) c.loop-way.way c.loop-way.way 1 (IsNext-one c.args.lines.now c.args.line c.loop-way.ways c.loop-way.way c.loop-way.invariant (omega arith)))

pub returns : goal.returns
returns c way = HasEqual-whole c.args.lines.now c.args.line c.loop-way.ways c.loop-way.way c.loop-way.invariant (omega arith) way
