use Rattle.std.proofs.Common.{◌≡◌, ℕ, ◌+◌, ◌-◌, length}
use Rattle.std.specs.List.{All}
use Rattle.pair_windows.specs.DomainWalks.{Each, HasWalked, IsQuiet, IsSmall}
use Rattle.pair_windows.specs.Replays.{HasTaken}
use Rattle.pair_windows.proofs.level_walks.take_ops.Given as goal

abbrev pub invariant-loop-walks : goal.invariant-loop-walks
invariant-loop-walks l = record {
  has_taken : HasTaken l.script l.replay;
  no_flush : IsQuiet l.script l.initial.replay.place l.replay.place;
  all_small : All IsSmall l.walks;
  walked : (from : ℕ) → l.initial.replay.place ≡ from + 1 → Each (HasWalked l.script l.hits from l.initial.replay.tree.epoch l.initial.replay.place) l.initial.walks
      → Each (HasWalked l.script l.hits from l.replay.tree.epoch l.replay.place) l.walks;
}

abbrev pub decreases-loop-walks : goal.decreases-loop-walks
decreases-loop-walks l = length l.script.ops - l.replay.place
