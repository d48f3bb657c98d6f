use Rattle.std.proofs.Common.{ℕ, ◌∷◌, ◌++◌, ◌+◌, [], refl, sym, ap, ◌∙◌, arith}
use Rattle.trace_gen.specs.Trace.{order_number}
use Rattle.trace_gen.proofs.Drawn.{AreDrawn-next, AreDrawn-zero}
use Rattle.trace_gen.proofs.Texts.{number_at-zero}
use Rattle.trace_gen.proofs.script.order_of.Goals as goal

pub numbers-init : goal.numbers-init
numbers-init c = AreDrawn-zero order_number c.args.n 1 0 c.args.draws.now.last _ (c.requires ∙ sym (number_at-zero c.args.n)) c.in_ok-order.ensures.items

pub numbers-preserved : goal.numbers-preserved
numbers-preserved c =
    let more = c.in_ok-push.ensures.items ∙ ap (λ (x : ℕ). c.numbers.order.items ++ order_number x ∷ []) c.draw.ensures.drawn in
    AreDrawn-next order_number c.args.n 1 c.numbers.counter c.numbers.counter (c.numbers.counter + 1) c.numbers.draws.last c.draw.new.self.last c.numbers.order.items c.push.new.self.items (omega arith) refl c.numbers.invariant c.draw.ensures.last more
