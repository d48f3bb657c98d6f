use Rattle.std.proofs.Common.{◌≡◌, ℕ, ◌<◌, ◌≤◌, length, get_or}
use Rattle.pair_text.specs.Values.{epoch_at}
use Rattle.pair_windows.proofs.Turns.{Turn}
use Rattle.pair_windows.specs.DomainWalks.{CanClose, Each, HasFound, HasWalked, IsCountable}
use Rattle.pair_windows.specs.declared.domain_walks.DomainWalk.{DomainWalk}
use Rattle.pair_windows.specs.declared.segments.Hits.{Hits}
use Rattle.pair_windows.proofs.joint_counted.close_all.Given as goal

abbrev pub invariant-loop-walk : goal.invariant-loop-walk
invariant-loop-walk l = record {
  left_countable : (i : ℕ) (d : DomainWalk) → l.walk-index ≤ i → i < length l.walk-items → IsCountable (get_or l.walk-items i d);
  turned : (hits : Hits) (from last : ℕ) → CanClose l.script from last → l.epoch ≡ epoch_at l.script from → Each (HasWalked l.script hits from (epoch_at l.script last) last) l.initial.walk-items
      → Turn (HasWalked l.script hits from (epoch_at l.script last) last) (HasFound l.script hits last) l.walk-index l.walk-items;
}
