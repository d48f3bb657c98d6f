use Rattle.std.proofs.Common.{◌∙◌, arith}
use Rattle.live_tests.proofs.Threads.{AreAtFirst-three, taken_three}
use Rattle.live_tests.proofs.tests.hands.Hands.open.Goals as goal

pub take_last-third-requires : goal.take_last-third-requires
take_last-third-requires g c = omega (arith, c.in_ok-live.ensures.before.count, c.requires.turns.threads)

pub take_last-second-requires : goal.take_last-second-requires
take_last-second-requires g c = omega (arith, c.in_ok-live.ensures.before.count, c.requires.turns.threads, c.take_last-third.ensures.len)

pub take_last-first-requires : goal.take_last-first-requires
take_last-first-requires g c = omega (arith, c.in_ok-live.ensures.before.count, c.requires.turns.threads, c.take_last-third.ensures.len, c.take_last-second.ensures.len)

pub returns : goal.returns
returns g c =
    let before = c.in_ok-live.ensures.before in
    let three = taken_three _ _ _ _ _ _ _ c.take_last-third.ensures.items c.take_last-second.ensures.items c.take_last-first.ensures.items (before.count ∙ c.requires.turns.threads) in
    AreAtFirst-three g.N.RunNames.script g.T.NamedTable.table _ _ _ _ _ three before c.in_ok-live.ensures.shown c.in_ok-live.ensures.turn
