use Rattle.std.proofs.Common.{◌≡◌, ◌+◌, ◌*◌, ap, ◌∙◌, arith}
use Rattle.trace_gen.specs.Draws.{number_at}
use Rattle.trace_gen.proofs.Texts.{Stands-zero, Stands-next, access_piece}
use Rattle.trace_gen.proofs.phases.push_accesses.Goals as goal

pub accesses-init : goal.accesses-init
accesses-init c =
    let here : c.args.task * c.args.n ≡ c.args.task * c.args.n + 0 = omega arith in
    Stands-zero (access_piece c.args.task) c.args.n (c.args.task * c.args.n + 1) (c.args.task * c.args.n + 0) c.args.trace.now.last c.args.trace.now.text (c.requires.last ∙ ap (number_at c.args.n) here)

pub accesses-preserved : goal.accesses-preserved
accesses-preserved c =
    let i = c.accesses.counter in
    let first = c.args.task * c.args.n in
    Stands-next (access_piece c.args.task) c.args.n (first + 1) i (first + i) (first + (i + 1)) c.accesses.trace.last c.push_access.new.self.last c.args.trace.now.text c.accesses.trace.text c.push_access.new.self.text (omega arith) (omega arith) c.accesses.invariant c.in_ok-push_access.ensures.last c.in_ok-push_access.ensures.text
