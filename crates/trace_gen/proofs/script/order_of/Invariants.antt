use Rattle.trace_gen.specs.Trace.{order_number}
use Rattle.trace_gen.proofs.Drawn.{AreDrawn}
use Rattle.trace_gen.proofs.script.order_of.Given as goal

abbrev pub invariant-numbers : goal.invariant-numbers
invariant-numbers l = AreDrawn order_number l.n 1 l.counter l.counter l.draws.last l.order.items
