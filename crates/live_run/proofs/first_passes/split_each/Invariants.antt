use Rattle.live_run.proofs.first_passes.split_each.Given as goal
use Rattle.live_run.specs.Openings.{AreSplit}

abbrev pub invariant-loop : goal.invariant-loop
invariant-loop g l = AreSplit l.counter l.fn.share l.share l.shares.items
