use Rattle.live_tests.proofs.tests.turns.take_turn.Given as goal
use Rattle.live_tests.specs.Turns.{HasMade}

abbrev pub invariant-loop-number : goal.invariant-loop-number
invariant-loop-number g l = HasMade l.turn.thread l.number l.p
