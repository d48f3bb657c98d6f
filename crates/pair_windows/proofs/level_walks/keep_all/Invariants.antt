use Rattle.std.proofs.Common.{ℕ, ◌+◌, ◌≤◌}
use Rattle.std.specs.List.{All}
use Rattle.pair_text.specs.Values.{epoch_at}
use Rattle.pair_windows.proofs.Turns.{Turn}
use Rattle.pair_windows.specs.DomainWalks.{Each, HasWalked, IsSmall}
use Rattle.pair_windows.specs.declared.segments.Hits.{Hits}
use Rattle.pair_windows.proofs.level_walks.keep_all.Given as goal

abbrev pub invariant-loop-walk : goal.invariant-loop-walk
invariant-loop-walk l = record {
  all_small : All IsSmall l.walk-items;
  turned : (hits : Hits) (from place : ℕ) → epoch_at l.script (from + 1) ≤ l.epoch → Each (HasWalked l.script hits from l.epoch place) l.initial.walk-items
      → Turn (HasWalked l.script hits from l.epoch place) (HasWalked l.script hits from (l.epoch + 1) place) l.walk-index l.walk-items;
}
