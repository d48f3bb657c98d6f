use Rattle.std.proofs.Common.{◌≡◌, ◌∷◌, ◌++◌, ◌+◌, ◌*◌, List, [], ap, ◌∙◌, arith}
use Rattle.script_ops.specs.declared.op.Op.{Op}
use Rattle.trace_gen.specs.Draws.{number_at}
use Rattle.trace_gen.specs.Scripts.{accesses}
use Rattle.trace_gen.specs.Trace.{task_draws}
use Rattle.trace_gen.proofs.Drawn.{map-range_with_len-next}
use Rattle.trace_gen.proofs.script.threads_of.Goals as goal

pub loop-before-init : goal.loop-before-init
loop-before-init c =
    let first : c.args.n ≡ (0 + 1) * c.args.n = omega arith in
    record { last = c.requires ∙ ap (number_at c.args.n) first; threads = c.in_ok-threads.ensures.items }

pub loop-before-preserved : goal.loop-before-preserved
loop-before-preserved c =
    let made = c.in_ok-accesses_of.ensures.ops in
    let more = c.in_ok-push.ensures.items ∙ ap (λ (ops : List Op). c.loop-before.threads.items ++ ops ∷ []) made in
    record {
      last = c.in_ok-accesses_of.ensures.last;
      threads = map-range_with_len-next (λ task. accesses task (task_draws c.args.n task)) c.loop-before.before c.loop-before.threads.items c.push.new.self.items c.loop-before.invariant.threads more;
    }
