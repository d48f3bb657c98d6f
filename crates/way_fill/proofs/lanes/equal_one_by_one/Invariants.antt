use Rattle.way_fill.proofs.EqualWays.{HasEqual}
use Rattle.way_fill.proofs.lanes.equal_one_by_one.Given as goal

abbrev pub invariant-loop-way : goal.invariant-loop-way
invariant-loop-way l = HasEqual l.lines l.line l.ways l.way
