use Rattle.step_world.specs.Openings.{AreListed}
use Rattle.step_world.proofs.fresh.fresh_lists.Given as goal

abbrev pub invariant-loop-t : goal.invariant-loop-t
invariant-loop-t l = AreListed l.script l.t l.lists.items
