use Rattle.std.proofs.Common.{◌≡◌, ◌+◌, ◌*◌, ◌++◌}
use Rattle.std.specs.List.{flat_map, range_with_len}
use Rattle.trace_gen.specs.Draws.{number_at}
use Rattle.trace_gen.specs.Trace.{task_draws, text_of, thread_lines}
use Rattle.trace_gen.proofs.phases.push_threads.Given as goal

abbrev pub invariant-loop-before : goal.invariant-loop-before
invariant-loop-before l = record {
  last : l.trace.last ≡ number_at l.n ((l.before + 1) * l.n);
  text : l.trace.text ≡ l.initial.trace.text ++ text_of (flat_map (λ task. thread_lines task (task_draws l.n task)) (range_with_len 1 l.before));
}
