use Rattle.std.proofs.Common.{◌≡◌, ◌≤◌, map, length}
use Rattle.std.specs.List.{range_with_len}
use Rattle.tree_law.specs.declared.follow.Follow.TheVariants.{Flush}
use Rattle.tree_core.proofs.follow.flush_all.Given as goal

abbrev pub invariant-loop-domain : goal.invariant-loop-domain
invariant-loop-domain l = record {
  flushes : l.follows.items ≡ map (λ d. Flush d) (range_with_len 0 l.domain);
  few : length l.follows.items ≤ l.domain;
}
