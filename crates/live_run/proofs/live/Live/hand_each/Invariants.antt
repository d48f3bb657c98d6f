use Rattle.live_run.proofs.live.Live.hand_each.Given as goal
use Rattle.live_run.specs.Phases.{HasMetEach}

abbrev pub invariant-loop-k : goal.invariant-loop-k
invariant-loop-k g l = HasMetEach g.N.RunNames.script l.k l.fn.one l.one l.fn.others l.others
