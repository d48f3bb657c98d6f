use Rattle.trace_gen.proofs.Texts.{Stands, order_piece}
use Rattle.trace_gen.proofs.phases.push_order_numbers.Given as goal

abbrev pub invariant-numbers : goal.invariant-numbers
invariant-numbers l = Stands order_piece l.n 1 l.counter l.counter l.trace.last l.initial.trace.text l.trace.text
