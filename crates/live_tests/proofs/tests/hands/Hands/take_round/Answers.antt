use Rattle.live_tests.proofs.Outcomes.{HaveMade-round}
use Rattle.live_tests.proofs.tests.hands.Hands.take_round.Goals as goal

pub returns : goal.returns
returns g c =
    HaveMade-round c.take_turn-2.result g.N.RunNames.script g.T.NamedTable.table _ _ _ _ _ _ _ _ _ c.take_turn-2.new.p c.requires.made c.in_ok-take_turn.ensures.made c.take_turn-2.ensures.made
