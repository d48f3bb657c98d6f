use Rattle.std.proofs.Common.{◌≡◌, ◌∷◌, ◌++◌, ◌+◌, ◌*◌, [], ap, ◌∙◌, arith}
use Rattle.script_ops.specs.declared.op.Op.{Op}
use Rattle.trace_gen.specs.Draws.{number_at}
use Rattle.trace_gen.specs.Scripts.{access}
use Rattle.trace_gen.proofs.Drawn.{AreDrawn-next, AreDrawn-zero}
use Rattle.trace_gen.proofs.script.accesses_of.Goals as goal

pub accesses-init : goal.accesses-init
accesses-init c =
    let here : c.args.task * c.args.n ≡ c.args.task * c.args.n + 0 = omega arith in
    AreDrawn-zero (access c.args.task) c.args.n (c.args.task * c.args.n + 1) (c.args.task * c.args.n + 0) c.args.draws.now.last _ (c.requires.last ∙ ap (number_at c.args.n) here) (c.reserve.ensures ∙ c.create-ops.ensures)

pub accesses-preserved : goal.accesses-preserved
accesses-preserved c =
    let i = c.accesses.counter in
    let first = c.args.task * c.args.n in
    let made = c.access_of.ensures ∙ ap (access c.args.task) c.draw.ensures.drawn in
    let more = c.in_ok-push.ensures.ok ∙ ap (λ (op : Op). c.accesses.ops ++ op ∷ []) made in
    AreDrawn-next (access c.args.task) c.args.n (first + 1) i (first + i) (first + (i + 1)) c.accesses.draws.last c.draw.new.self.last c.accesses.ops c.push.new.self (omega arith) (omega arith) c.accesses.invariant c.draw.ensures.last more
