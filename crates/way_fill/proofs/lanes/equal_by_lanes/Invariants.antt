use Rattle.std.proofs.Common.{◌+◌, ◌-◌, ◌<◌}
use Rattle.way_fill.proofs.EqualWays.{HasEqual}
use Rattle.way_fill.proofs.lanes.equal_by_lanes.Given as goal

abbrev pub invariant-loop-first : goal.invariant-loop-first
invariant-loop-first l = record {
  within : l.first < l.last + 8;
  is : HasEqual l.lines l.line l.ways l.first;
}

abbrev pub decreases-loop-first : goal.decreases-loop-first
decreases-loop-first l = l.last - l.first
