use Rattle.private_lru.specs.Uses.{AreAccesses}
use Rattle.private_lru.proofs.uses.accesses_of.Given as goal

abbrev pub invariant-loop-at : goal.invariant-loop-at
invariant-loop-at l = AreAccesses l.entries l.at l.uses.items
