use Rattle.std.proofs.Common.{◌+◌, ◌*◌}
use Rattle.step_world.specs.Openings.{AreFresh}
use Rattle.step_world.proofs.fresh.push_domain.Given as goal

abbrev pub invariant-loop-slice : goal.invariant-loop-slice
invariant-loop-slice l = AreFresh l.script (l.domain * l.script.machine.slices + l.slice) l.slices.items
