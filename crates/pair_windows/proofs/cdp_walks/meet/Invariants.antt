use Rattle.std.proofs.Common.{◌≡◌, ◌-◌, ◌<◌, length}
use Rattle.pair_windows.specs.CdpWalks.{IsWalkedIn, entries_of_domain}
use Rattle.pair_windows.proofs.cdp_walks.meet.Given as goal

abbrev pub invariant-loop-entries : goal.invariant-loop-entries
invariant-loop-entries l = record {
  own : l.walk.domain ≡ l.initial.walk.domain;
  walked : IsWalkedIn l.run l.replay.tree.epoch l.replay.tree.epoch l.initial.walk.domain l.walk;
  small : l.walk.domain < 8;
}

abbrev pub decreases-loop-entries : goal.decreases-loop-entries
decreases-loop-entries l = length (entries_of_domain l.run l.initial.walk.domain) - l.walk.next
