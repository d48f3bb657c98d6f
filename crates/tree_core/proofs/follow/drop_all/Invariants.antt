use Rattle.std.proofs.Common.{◌≡◌, ◌≤◌, map, length}
use Rattle.std.specs.List.{range_with_len}
use Rattle.tree_law.specs.declared.follow.Follow.TheVariants.{Drop}
use Rattle.tree_core.proofs.follow.drop_all.Given as goal

abbrev pub invariant-loop-domain : goal.invariant-loop-domain
invariant-loop-domain l = record {
  drops : l.follows.items ≡ map (λ d. Drop d l.line) (range_with_len 0 l.domain);
  few : length l.follows.items ≤ l.domain;
}
