use Rattle.machine.specs.Maps.{parameters_of}
use Rattle.tree_core.proofs.FreedIds.{HasFreed}
use Rattle.tree_core.proofs.freeing.free_all.Given as goal

abbrev pub invariant-loop-rmid : goal.invariant-loop-rmid
invariant-loop-rmid l = HasFreed (parameters_of l.m) l.freed l.looks l.initial.rmids l.rmid-index l.rmids l.rest
