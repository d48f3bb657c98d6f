use Rattle.std.proofs.Common.{◌≡◌, length}
use Rattle.pair_windows.specs.DomainWalks.{Each, IsFresh}
use Rattle.pair_windows.proofs.domain_walks.fresh_walks.Given as goal

abbrev pub invariant-loop-domain : goal.invariant-loop-domain
invariant-loop-domain l = record {
  so_many : length l.walks.items ≡ l.domain;
  all_fresh : Each IsFresh l.walks.items;
}
