use Rattle.std.proofs.Common.{◌-◌, ◌<◌, ◌≤◌, ℕ, length, get_or}
use Rattle.task_binding.specs.declared.binding.Binding.{Binding}
use Rattle.task_binding.proofs.search.lower_bound.Given as goal

abbrev pub invariant-loop-low : goal.invariant-loop-low
invariant-loop-low l = record {
  order : l.low ≤ l.high;
  within : l.high ≤ length l.bindings;
  below : (k : ℕ) (d : Binding) → k < l.low → (get_or l.bindings k d).task < l.task;
  above : (k : ℕ) (d : Binding) → l.high ≤ k → k < length l.bindings → l.task ≤ (get_or l.bindings k d).task;
}

abbrev pub decreases-loop-low : goal.decreases-loop-low
decreases-loop-low l = l.high - l.low
