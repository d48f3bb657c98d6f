-- All L3 domains together.
use Rattle.std.proofs.Common.{◌≡◌, ℕ, suc, ◌+◌, ◌-◌, ◌<◌, ◌≤◌, List, [], ◌∷◌, ◌++◌, length, map, get_or, refl, sym, subst, ap, ap₂, ◌∙◌, arith}
use Rattle.std.specs.List.{All, flat_map, range_with_len}
use Rattle.cache_core.specs.declared.entry.SliceEntry.{SliceEntry}
use Rattle.pair_text.specs.Values.{PairScriptValue, epoch_at}
use Rattle.pair_text.specs.declared.side.Side.TheVariants.{First, Second}
use Rattle.pair_law.specs.LevelRuns.{LevelJournalsValue}
use Rattle.pair_windows.proofs.FlushedWindows.{windows_before-first}
use Rattle.pair_windows.proofs.RisingLevelSpans.{RiseByGroup-held}
use Rattle.pair_windows.proofs.SegmentSteps.{length-joined}
use Rattle.pair_windows.specs.DomainWalks.{Each, HasFound, HasWalked, IsCountable, IsFresh, IsSmall}
use Rattle.pair_windows.specs.Hits.{AreHits}
use Rattle.pair_windows.specs.JointWindows.{joint_windows, windows_in}
use Rattle.pair_windows.specs.LevelJournals.{IsPlayedOnLevels}
use Rattle.pair_windows.specs.LevelSpans.{stay_of}
use Rattle.pair_windows.specs.Segments.{CanWalk, IsSegment, hit_l2, hit_l3}
use Rattle.pair_windows.specs.declared.domain_walks.DomainWalk.{DomainWalk}
use Rattle.pair_windows.specs.declared.level_masks.LevelMasks.{LevelMasks}
use Rattle.pair_windows.specs.declared.segments.Hits.{Hits}
use Rattle.private_lru.specs.Ends.{RiseByGroup}
use Rattle.private_lru.specs.declared.span.Span.{Span}

-- lists that are each that of a position, one after another
pub flat_map-each : {X Y : Type 0} (f : X → List Y) (g : ℕ → List Y) (n : ℕ) (xs : List X) → ((i : ℕ) (d : X) → i < length xs → f (get_or xs i d) ≡ g (n + i))
    → flat_map f xs ≡ flat_map g (range_with_len n (length xs))
flat_map-each f g n [] same = refl
flat_map-each {Y = Y} f g n (x ∷ xs) same =
    let none : n + 0 ≡ n = omega arith in
    let here : f x ≡ g n = same 0 x (omega arith) ∙ ap g none in
    let rest = flat_map-each f g (n + 1) xs (λ i d lt. let next : n + suc i ≡ n + 1 + i = omega arith in same (suc i) d (omega (arith, lt)) ∙ ap g next) in
    ap₂ (λ (one more : List Y). one ++ more) here rest

module _ (script : PairScriptValue) (hits : Hits) where
  -- no domain has a window before the first flush
  pub HasFound-fresh : (last : ℕ) (walks : List DomainWalk) → IsSegment script 0 last → Each IsFresh walks → Each (HasFound script hits last) walks
  HasFound-fresh last walks segment fresh = λ i d lt. record {
    own = (fresh i d lt).0;
    windows = λ j played a b. (fresh i d lt).1 ∙ sym (windows_before-first script i j last segment);
  }

  -- domains that exist are few
  pub IsSmall-found : (place : ℕ) (walks : List DomainWalk) → length walks ≤ 8 → Each (HasFound script hits place) walks → All IsSmall walks
  IsSmall-found place walks few found = λ i d lt. let own = (found i d lt).own in omega (arith, own, lt, few)

  -- what stands after a flush in each domain can be counted
  pub IsCountable-walked : (from last : ℕ) (walks : List DomainWalk) → CanWalk script hits → IsSegment script (from + 1) last → Each (HasWalked script hits from (epoch_at script last) last) walks → All IsCountable walks
  IsCountable-walked from last walks can segment all = λ i d lt.
      let walked = all i d lt in
      let first : ℕ = epoch_at script (from + 1) in
      let n : ℕ = last - (from + 1) in
      let within = segment.within in
      let few = can.few in
      record {
        rising = subst (λ (hs : List (Span LevelMasks)). RiseByGroup (map stay_of hs)) (sym walked.held) (RiseByGroup-held script i first (epoch_at script last - first));
        few_l2 = let is = ap (λ (l : List SliceEntry). length l) walked.l2 in let most = length-joined script i (hit_l2 hits.l2.items) (from + 1) n in omega (arith, is, most, within, few);
        few_l3 = let is = ap (λ (l : List SliceEntry). length l) walked.l3 in let most = length-joined script i (hit_l3 hits.l2.items hits.l3.items) (from + 1) n in omega (arith, is, most, within, few);
      }

  -- the windows of all domains
  pub joint_windows-found : (j : LevelJournalsValue) (walks : List DomainWalk) → length walks ≡ script.machines.machine.domains → IsPlayedOnLevels script j
      → AreHits script First j.l2 hits.l2.items → AreHits script Second j.l3 hits.l3.items → Each (HasFound script hits (length script.ops)) walks
      → flat_map (λ (w : DomainWalk). w.windows.items) walks ≡ joint_windows script j
  joint_windows-found j walks count played a b found =
      flat_map-each (λ (w : DomainWalk). w.windows.items) (λ domain. windows_in script domain j) 0 walks
      (λ i d lt. let at : 0 + i ≡ i = omega arith in (found i d lt).windows j played a b ∙ ap (λ domain. windows_in script domain j) (sym at))
      ∙ ap (λ (n : ℕ). flat_map (λ domain. windows_in script domain j) (range_with_len 0 n)) count
