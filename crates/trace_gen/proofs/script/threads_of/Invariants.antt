use Rattle.std.proofs.Common.{◌≡◌, ◌+◌, ◌*◌, map}
use Rattle.std.specs.List.{range_with_len}
use Rattle.trace_gen.specs.Draws.{number_at}
use Rattle.trace_gen.specs.Scripts.{accesses}
use Rattle.trace_gen.specs.Trace.{task_draws}
use Rattle.trace_gen.proofs.script.threads_of.Given as goal

abbrev pub invariant-loop-before : goal.invariant-loop-before
invariant-loop-before l = record {
  last : l.draws.last ≡ number_at l.n ((l.before + 1) * l.n);
  threads : l.threads.items ≡ map (λ task. accesses task (task_draws l.n task)) (range_with_len 1 l.before);
}
