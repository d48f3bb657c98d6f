use Rattle.std.proofs.Common.{◌+◌, ◌*◌}
use Rattle.trace_gen.specs.Scripts.{access}
use Rattle.trace_gen.proofs.Drawn.{AreDrawn}
use Rattle.trace_gen.proofs.script.accesses_of.Given as goal

abbrev pub invariant-accesses : goal.invariant-accesses
invariant-accesses l = AreDrawn (access l.task) l.n (l.task * l.n + 1) l.counter (l.task * l.n + l.counter) l.draws.last l.ops
