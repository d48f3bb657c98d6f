use Rattle.std.proofs.Common.{◌*◌}
use Rattle.live_tests.proofs.tests.hands.Hands.take_turns.Given as goal
use Rattle.live_tests.specs.Turns.{HaveMade}

abbrev pub invariant-loop-i : goal.invariant-loop-i
invariant-loop-i g l = HaveMade g.N.RunNames.script g.T.NamedTable.table l.i (l.i * 100) l.self.turn l.self.first l.self.second l.self.third
