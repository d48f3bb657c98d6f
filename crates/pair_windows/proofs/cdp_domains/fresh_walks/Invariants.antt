use Rattle.std.proofs.Common.{◌≡◌, length}
use Rattle.pair_windows.specs.CdpWalks.{IsWalkedIn}
use Rattle.pair_windows.specs.DomainWalks.{Each}
use Rattle.pair_windows.proofs.cdp_domains.fresh_walks.Given as goal

abbrev pub invariant-loop-domain : goal.invariant-loop-domain
invariant-loop-domain l = record {
  so_many : length l.walks.items ≡ l.domain;
  all_walked : Each (IsWalkedIn l.run 0 0) l.walks.items;
}
