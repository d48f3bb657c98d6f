use Rattle.std.proofs.Common.{◌≡◌, ◌*◌, arith, subst}
use Rattle.live_tests.proofs.tests.hands.Hands.take_turns.Goals as goal
use Rattle.live_tests.specs.Turns.{HaveMade}

pub finish-requires-clause-made : goal.finish-requires-clause-made
finish-requires-clause-made g c =
    let self = c.loop-i.self in
    let last : c.loop-i.i ≡ 4 = omega arith in
    subst (λ i. HaveMade g.N.RunNames.script g.T.NamedTable.table i (i * 100) self.turn self.first self.second self.third) last c.loop-i.invariant
