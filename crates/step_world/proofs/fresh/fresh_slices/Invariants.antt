use Rattle.std.proofs.Common.{◌*◌}
use Rattle.step_world.specs.Openings.{AreFresh}
use Rattle.step_world.proofs.fresh.fresh_slices.Given as goal

abbrev pub invariant-loop-domain : goal.invariant-loop-domain
invariant-loop-domain l = AreFresh l.script (l.domain * l.script.machine.slices) l.slices.items
