use Rattle.live_tests.proofs.Outcomes.{HaveMade-second}
use Rattle.live_tests.proofs.tests.hands.Hands.finish.Goals as goal

pub returns : goal.returns
returns g c = HaveMade-second c.take_turn.result g.N.RunNames.script g.T.NamedTable.table _ _ _ _ _ _ c.take_turn.new.p _ c.requires.made c.take_turn.ensures.made
