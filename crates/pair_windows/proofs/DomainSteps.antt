-- One L3 domain, op by op.
use Rattle.std.proofs.Common.{◌≡◌, ℕ, ◌+◌, ◌-◌, ◌<◌, ◌≤◌, Bool, List, [], ◌++◌, map, sym, ap, ap₂, ◌∙◌, arith}
use Rattle.std.proofs.lemmas.List.{append-nil}
use Rattle.cache_core.specs.declared.entry.SliceEntry.{SliceEntry}
use Rattle.pair_law.specs.Epochs.{state_at}
use Rattle.pair_law.specs.State.{PairState}
use Rattle.pair_text.specs.Values.{PairScriptValue, epoch_at}
use Rattle.pair_text.specs.declared.side.Side.TheVariants.{First, Second}
use Rattle.pair_law.specs.LevelRuns.{LevelJournalsValue}
use Rattle.pair_windows.proofs.FlushedWindows.{windows_before-more, windows_from-none}
use Rattle.pair_windows.proofs.LongerLevelSpans.{held_from-kept}
use Rattle.pair_windows.proofs.SegmentSteps.{joined-more}
use Rattle.pair_windows.specs.DomainWalks.{CanClose, HasFound, HasWalked, windows_before}
use Rattle.pair_windows.specs.Hits.{AreHits}
use Rattle.pair_windows.specs.Joined.{joined, joined_at}
use Rattle.pair_windows.specs.JointWindows.{windows_from}
use Rattle.pair_windows.specs.LevelJournals.{IsPlayedOnLevels}
use Rattle.pair_windows.specs.LevelSpans.{exclusive_in, goes_on, goes_on_at, held_from, masks_of}
use Rattle.pair_windows.specs.Replays.{HasTaken, ReplayValue}
use Rattle.pair_windows.specs.Segments.{hit_l2, hit_l3}
use Rattle.pair_windows.specs.declared.domain_walks.DomainWalk.{DomainWalk}
use Rattle.pair_windows.specs.declared.joint_window.JointWindow.{JointWindow}
use Rattle.pair_windows.specs.declared.segments.Hits.{Hits}
use Rattle.private_lru.proofs.laws.LongerSpans.{spans-none}
use Rattle.private_lru.specs.Keeping.{span_on, span_to}

module _ (script : PairScriptValue) (hits : Hits) (from domain : ℕ) (w new : DomainWalk) (own : new.domain ≡ w.domain) where
  module _ (kept : new.windows.items ≡ w.windows.items) where
    -- no window more
    HasFound-kept : (place : ℕ) → HasFound script hits place domain w → HasFound script hits place domain new
    HasFound-kept place found = record { own = own ∙ found.own; windows = λ j played a b. kept ∙ found.windows j played a b }

    -- the groups that are exclusive after the flush
    pub HasWalked-begun : (r : ReplayValue) → HasTaken script r → r.place ≡ from + 1 → HasFound script hits from domain w
        → new.segment.held.items ≡ map (λ g. span_to r.tree.epoch (masks_of w.domain g)) (exclusive_in r.tree.state)
        → new.segment.l2.items ≡ [] → new.segment.l3.items ≡ [] → HasWalked script hits from r.tree.epoch r.place domain new
    HasWalked-begun r taken after found held l2 l3 =
        let e : ℕ = r.tree.epoch in
        let first : e ≡ epoch_at script (from + 1) = taken.epoch ∙ ap (epoch_at script) after in
        let none : 0 ≡ e - epoch_at script (from + 1) = omega (arith, first) in
        let no : 0 ≡ r.place - (from + 1) = omega (arith, after) in
        record {
          found = HasFound-kept from found;
          held =
              held
              ∙ (ap₂ (λ (k : ℕ) (s : PairState). map (λ g. span_to e (masks_of k g)) (exclusive_in s)) found.own taken.state
              ∙ (spans-none (masks_of domain) (goes_on_at script domain) e (exclusive_in (state_at script e)) ∙ ap₂ (held_from script domain) first none));
          l2 = l2 ∙ ap (joined script domain (hit_l2 hits.l2.items) (from + 1)) no;
          l3 = l3 ∙ ap (joined script domain (hit_l3 hits.l2.items hits.l3.items) (from + 1)) no;
        }

    -- an op more
    pub HasWalked-pushed : (epoch place : ℕ) → from < place → HasWalked script hits from epoch place domain w → new.segment.held.items ≡ w.segment.held.items
        → new.segment.l2.items ≡ w.segment.l2.items ++ joined_at script w.domain (hit_l2 hits.l2.items) place
        → new.segment.l3.items ≡ w.segment.l3.items ++ joined_at script w.domain (hit_l3 hits.l2.items hits.l3.items) place
        → HasWalked script hits from epoch (place + 1) domain new
    HasWalked-pushed epoch place lt walked held l2 l3 =
        let a : ℕ → ℕ → ℕ → Bool = hit_l2 hits.l2.items in
        let b : ℕ → ℕ → ℕ → Bool = hit_l3 hits.l2.items hits.l3.items in
        let at = walked.found.own in
        let le : from + 1 ≤ place = omega (arith, lt) in
        record {
          found = HasFound-kept from walked.found;
          held = held ∙ walked.held;
          l2 = l2 ∙ (ap₂ (λ (l : List SliceEntry) (k : ℕ). l ++ joined_at script k a place) walked.l2 at ∙ sym (joined-more script domain a (from + 1) place le));
          l3 = l3 ∙ (ap₂ (λ (l : List SliceEntry) (k : ℕ). l ++ joined_at script k b place) walked.l3 at ∙ sym (joined-more script domain b (from + 1) place le));
        }

    -- an epoch more
    pub HasWalked-kept : (epoch place : ℕ) (s : PairState) → epoch_at script (from + 1) ≤ epoch → s ≡ state_at script (epoch + 1) → HasWalked script hits from epoch place domain w
        → new.segment.held.items ≡ map (span_on (λ h. goes_on script.machines w.domain h s) epoch) w.segment.held.items
        → new.segment.l2.items ≡ w.segment.l2.items → new.segment.l3.items ≡ w.segment.l3.items → HasWalked script hits from (epoch + 1) place domain new
    HasWalked-kept epoch place s le state walked held l2 l3 = record {
      found = HasFound-kept from walked.found;
      held =
          held
          ∙ (ap₂ (λ (k : ℕ) (x : PairState). map (span_on (λ h. goes_on script.machines k h x) epoch) w.segment.held.items) walked.found.own state
          ∙ held_from-kept script domain (epoch_at script (from + 1)) epoch w.segment.held.items le walked.held);
      l2 = l2 ∙ walked.l2;
      l3 = l3 ∙ walked.l3;
    }

  -- the windows that begin at the flush
  pub HasFound-closed : (last : ℕ) → CanClose script from last → HasFound script hits from domain w
      → ((j : LevelJournalsValue) → IsPlayedOnLevels script j → AreHits script First j.l2 hits.l2.items → AreHits script Second j.l3 hits.l3.items
      → new.windows.items ≡ w.windows.items ++ windows_from script domain j from)
      → HasFound script hits last domain new
  HasFound-closed last can found more = record {
    own = own ∙ found.own;
    windows = λ j played a b.
        more j played a b
        ∙ (ap (λ (l : List JointWindow). l ++ windows_from script domain j from) (found.windows j played a b) ∙ sym (windows_before-more script domain j from last can.flush can.segment));
  }

-- no group is exclusive after the flush
pub HasFound-quiet : (script : PairScriptValue) (hits : Hits) (from last domain : ℕ) (w : DomainWalk) → CanClose script from last
    → exclusive_in (state_at script (epoch_at script (from + 1))) ≡ [] → HasFound script hits from domain w → HasFound script hits last domain w
HasFound-quiet script hits from last domain w can none found = record {
  own = found.own;
  windows = λ j played a b.
      found.windows j played a b
      ∙ sym (windows_before-more script domain j from last can.flush can.segment
      ∙ (ap (λ (l : List JointWindow). windows_before script domain j from ++ l) (windows_from-none script domain j from can.flush none) ∙ append-nil (windows_before script domain j from)));
}
