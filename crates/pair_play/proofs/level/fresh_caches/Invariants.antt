use Rattle.machine.specs.Maps.{parameters_of}
use Rattle.pair_play.specs.Histories.{AreFresh}
use Rattle.pair_play.proofs.level.fresh_caches.Given as goal

abbrev pub invariant-loop-domain : goal.invariant-loop-domain
invariant-loop-domain l = AreFresh (parameters_of l.m) l.domain l.caches.items
