use Rattle.std.proofs.Common.{◌≡◌, ◌≤◌, filter, map, length}
use Rattle.std.specs.List.{range_with_len}
use Rattle.tree_law.specs.commands.Schemata.{names_domain}
use Rattle.tree_law.specs.declared.follow.Follow.TheVariants.{Raise}
use Rattle.tree_core.proofs.follow.raise_named.Given as goal

abbrev pub invariant-loop-domain : goal.invariant-loop-domain
invariant-loop-domain l = record {
  raises : l.follows.items ≡ map (λ d. Raise d) (filter (names_domain l.all) (range_with_len 0 l.domain));
  few : length l.follows.items ≤ l.domain;
}
