use Rattle.run_law.specs.Quotas.{AreCounted}
use Rattle.run_law.proofs.rooms.command_counts.Given as goal

abbrev pub invariant-loop-t : goal.invariant-loop-t
invariant-loop-t l = AreCounted l.script l.t l.counts.items
