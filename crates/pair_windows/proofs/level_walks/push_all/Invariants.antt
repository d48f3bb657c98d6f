use Rattle.std.proofs.Common.{ℕ, ◌+◌, ◌<◌}
use Rattle.std.specs.List.{All}
use Rattle.pair_windows.proofs.Turns.{Turn}
use Rattle.pair_windows.specs.DomainWalks.{Each, HasWalked, IsSmall}
use Rattle.pair_windows.proofs.level_walks.push_all.Given as goal

abbrev pub invariant-loop-walk : goal.invariant-loop-walk
invariant-loop-walk l = record {
  all_small : All IsSmall l.walk-items;
  turned : (from epoch : ℕ) → from < l.replay.place → Each (HasWalked l.script l.hits from epoch l.replay.place) l.initial.walk-items
      → Turn (HasWalked l.script l.hits from epoch l.replay.place) (HasWalked l.script l.hits from epoch (l.replay.place + 1)) l.walk-index l.walk-items;
}
