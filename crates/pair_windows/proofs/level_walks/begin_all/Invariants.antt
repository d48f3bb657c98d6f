use Rattle.std.proofs.Common.{◌≡◌, ℕ, ◌+◌}
use Rattle.std.specs.List.{All}
use Rattle.pair_text.specs.Values.{PairScriptValue}
use Rattle.pair_windows.proofs.Turns.{Turn}
use Rattle.pair_windows.specs.DomainWalks.{Each, HasFound, HasWalked, IsSmall}
use Rattle.pair_windows.specs.Replays.{HasTaken}
use Rattle.pair_windows.specs.declared.segments.Hits.{Hits}
use Rattle.pair_windows.proofs.level_walks.begin_all.Given as goal

abbrev pub invariant-loop-walk : goal.invariant-loop-walk
invariant-loop-walk l = record {
  all_small : All IsSmall l.walk-items;
  turned : (s : PairScriptValue) (hits : Hits) (from : ℕ) → HasTaken s l.replay → l.replay.place ≡ from + 1 → Each (HasFound s hits from) l.initial.walk-items
      → Turn (HasFound s hits from) (HasWalked s hits from l.replay.tree.epoch l.replay.place) l.walk-index l.walk-items;
}
