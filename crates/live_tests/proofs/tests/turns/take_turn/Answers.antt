use Rattle.live_tests.proofs.Threads.{HasMade-next}
use Rattle.live_tests.proofs.tests.turns.take_turn.Goals as goal

pub loop-number-preserved : goal.loop-number-preserved
loop-number-preserved g c =
    HasMade-next c.args.turn.thread c.loop-number.number c.loop-number.p c.make.new.p c.loop-number.invariant c.make.ensures.thread c.make.ensures.next c.make.ensures.begun
