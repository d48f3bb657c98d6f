use Rattle.std.proofs.Common.{◌+◌, refl, sym, ◌∙◌, arith}
use Rattle.trace_gen.proofs.Texts.{Stands-zero, Stands-next, number_at-zero, order_piece}
use Rattle.trace_gen.proofs.phases.push_order_numbers.Goals as goal

pub numbers-init : goal.numbers-init
numbers-init c = Stands-zero order_piece c.args.n 1 0 c.args.trace.now.last c.args.trace.now.text (c.requires ∙ sym (number_at-zero c.args.n))

pub numbers-preserved : goal.numbers-preserved
numbers-preserved c = Stands-next order_piece c.args.n 1 c.numbers.counter c.numbers.counter (c.numbers.counter + 1) c.numbers.trace.last c.push_order_number.new.self.last c.args.trace.now.text c.numbers.trace.text c.push_order_number.new.self.text (omega arith) refl c.numbers.invariant c.in_ok-push_order_number.ensures.last c.in_ok-push_order_number.ensures.text
