use Rattle.journal_check.specs.Outcomes.{AreFull}
use Rattle.journal_check.proofs.victims.are_full.Given as goal

abbrev pub invariant-loop-way : goal.invariant-loop-way
invariant-loop-way l = AreFull l.slots l.set l.mask l.way
