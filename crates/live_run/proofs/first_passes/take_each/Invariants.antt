use Rattle.live_run.proofs.first_passes.take_each.Given as goal
use Rattle.live_run.specs.Openings.{HaveGiven}

abbrev pub invariant-loop-i : goal.invariant-loop-i
invariant-loop-i l = HaveGiven l.i l.fn.logs.items l.logs.items l.passes.items
