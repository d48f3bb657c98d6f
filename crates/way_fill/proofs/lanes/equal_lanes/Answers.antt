use Rattle.std.proofs.Common.{arith}
use Rattle.way_fill.proofs.EqualWays.{has_way-lanes, lanes-lt}
use Rattle.way_fill.proofs.lanes.equal_lanes.Goals as goal

pub overflow_cast-result : goal.overflow_cast-result
overflow_cast-result c = let lt = lanes-lt c.args.lines.now c.args.line c.args.first c.requires in omega (arith, lt)

pub returns-clause-ways : goal.returns-clause-ways
returns-clause-ways c way = has_way-lanes c.args.lines.now c.args.line c.args.first way c.requires

pub returns-clause-limit : goal.returns-clause-limit
returns-clause-limit c = lanes-lt c.args.lines.now c.args.line c.args.first c.requires
