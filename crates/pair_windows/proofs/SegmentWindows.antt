-- The windows that begin at a flush, by what is counted in the segment after it.
use Rattle.std.proofs.Common.{◌≡◌, ℕ, suc, ◌+◌, ◌-◌, ◌<◌, Bool, true, ◌&&◌, List, [], ◌∷◌, length, map, filter, take, get_or, Some, refl, sym, subst, ap, ap₂, ◌∙◌, arith}
use Rattle.std.proofs.lemmas.List.{get_or-map, length-map}
use Rattle.std.proofs.lemmas.List.Sums.{length-filter}
use Rattle.cache_core.specs.declared.entry.SliceEntry.{SliceEntry}
use Rattle.cache_core.specs.declared.entry.What.TheVariants.{Flush}
use Rattle.pair_windows.proofs.CoveredUses.{count-hits_l2, count-hits_l3, count-reaches_l3}
use Rattle.pair_windows.proofs.HeldLevels.{HasLevels-exclusive, HasOwn}
use Rattle.pair_windows.proofs.JointListedWindows.{IsJointWindow-listed}
use Rattle.pair_windows.proofs.SegmentEnds.{held-window}
use Rattle.pair_windows.proofs.laws.JoinedCounts.{accesses-joined, count-covered}
use Rattle.pair_windows.specs.JointCounted.{counted_window, counted_windows}
use Rattle.pair_windows.specs.Hits.{AreHits}
use Rattle.pair_windows.specs.LevelSpans.{exclusive_in, held_from, held_of, stay_of}
use Rattle.pair_windows.specs.Joined.{joined}
use Rattle.pair_windows.specs.JointWindows.{exclusive_after, last_epoch, uses_of, window_end, window_from}
use Rattle.pair_windows.specs.LevelJournals.{IsPlayedOnLevels}
use Rattle.pair_windows.specs.Segments.{IsSegment, hit_l2, hit_l3}
use Rattle.pair_windows.specs.declared.level_masks.LevelMasks.{LevelMasks}
use Rattle.private_lru.specs.declared.span.Span.{Span}
use Rattle.pair_windows.specs.declared.joint_window.JointWindow.{JointWindow}
use Rattle.pair_law.specs.Epochs.{state_at}
use Rattle.pair_law.specs.State.{mask_in}
use Rattle.pair_text.specs.Values.{PairScriptValue, epoch_at, op_at}
use Rattle.pair_text.specs.declared.group.PairGroup.{PairGroup}
use Rattle.pair_text.specs.declared.op.PairOp.TheVariants as ops
use Rattle.pair_text.specs.declared.side.Side.TheVariants.{First, Second}
use Rattle.pair_law.proofs.laws.Counts.{CountsAgree-joint_window}
use Rattle.pair_law.proofs.laws.Playing.{epoch_at-command}
use Rattle.pair_law.specs.LevelRuns.{LevelJournalsValue}
use Rattle.pair_law.specs.WindowLaws.{count_uses}
use Rattle.private_lru.specs.Covered as lru
use Rattle.private_lru.specs.GroupCounts.{accesses_of, hits_of_group, is_own_hit}
use Rattle.private_lru.specs.declared.counts.WindowCounts.{WindowCounts}
use Rattle.rc_base.specs.declared.names.Gid.{Gid}
use Rattle.private_lru.specs.Ends.{held_len}
use Rattle.private_lru.specs.Tallies.{AreCounted, IsCounted}
use Rattle.private_lru.specs.declared.exclusive_span.ExclusiveSpan.{ExclusiveSpan}

-- ---- windows of groups, each with its counts

-- the windows of groups that are each counted are the counted ones
counted_windows-map : (domain from : ℕ) (held : PairGroup → Span LevelMasks) (f : PairGroup → JointWindow) (gs : List PairGroup) (l2 l3 : List WindowCounts) → length l2 ≡ length gs → length l3 ≡ length gs
    → ((i : ℕ) (g : PairGroup) (c d : WindowCounts) → i < length gs → f (get_or gs i g) ≡ counted_window domain from (held (get_or gs i g)) (get_or l2 i c) (get_or l3 i d))
    → counted_windows domain from (map held gs) l2 l3 ≡ map f gs
counted_windows-map domain from held f [] l2 l3 one two each = refl
counted_windows-map domain from held f (g ∷ gs) [] l3 one two each = absurd (omega (arith, one))
counted_windows-map domain from held f (g ∷ gs) (c ∷ cs) [] one two each = absurd (omega (arith, two))
counted_windows-map domain from held f (g ∷ gs) (c ∷ cs) (d ∷ ds) one two each =
    let here = each 0 g c d (omega arith) in
    let rest = counted_windows-map domain from held f gs cs ds (omega (arith, one)) (omega (arith, two)) (λ i x y z lt. each (suc i) x y z (omega (arith, lt))) in
    cc

-- windows with the same counts
JointWindow-same : (domain from : ℕ) (gid : Gid) (u u' c c' h h' p p' a a' k k' q q' : ℕ) → u ≡ u' → c ≡ c' → h ≡ h' → p ≡ p' → a ≡ a' → k ≡ k' → q ≡ q'
    → (let w : JointWindow = record { domain = domain; gid = gid; from = from; uses = u; covered = c; l2_hits = h; l2_private = p; l3_accesses = a; l3_hits = k; l3_private = q } in w)
    ≡ record { domain = domain; gid = gid; from = from; uses = u'; covered = c'; l2_hits = h'; l2_private = p'; l3_accesses = a'; l3_hits = k'; l3_private = q' }
JointWindow-same domain from gid u u' c c' h h' p p' a a' k k' q q' uses covers hits privates asked third last = cc

length-filter_all : (es : List SliceEntry) → length (filter (λ (e : SliceEntry). true) es) ≡ length es
length-filter_all [] = refl
length-filter_all (e ∷ es) = ap suc (length-filter_all es)

-- ---- the counts of a list

-- What is counted of a group in a list of entries of a window is what is counted of its uses there.
record CountsUses (script : PairScriptValue) (domain group from to : ℕ) (hits : ℕ → ℕ → ℕ → Bool) (c : WindowCounts) : Type 0 where
  uses : uses_of script domain group from to ≡ c.accesses
  covers : count_uses script domain group from to (λ i cpu line. true) ≡ c.covered
  covers_hits : count_uses script domain group from to hits ≡ c.covered_hits

CountsUses-joined : (script : PairScriptValue) (domain from to sets : ℕ) (hits : ℕ → ℕ → ℕ → Bool) (entries : List SliceEntry) (s : ExclusiveSpan) (c : WindowCounts)
    → take (held_len s.last entries) entries ≡ joined script domain hits (from + 1) (to - (from + 1)) → IsCounted sets Flush entries s c → CountsUses script domain s.gid.0 from to hits c
CountsUses-joined script domain from to sets hits entries s c held counted =
    let group : ℕ = s.gid.0 in
    let window : List SliceEntry = joined script domain hits (from + 1) (to - (from + 1)) in
    let all : length (filter (λ (e : SliceEntry). true) (lru.covered sets group Flush window)) ≡ count_uses script domain group from to (λ i cpu line. true) =
    count-covered script domain hits group from to sets (λ (e : SliceEntry). true) (λ i cpu line. true) (λ i task cpu line own. refl) in
    let those : length (filter (λ (e : SliceEntry). is_own_hit group e.what) (lru.covered sets group Flush window)) ≡ count_uses script domain group from to hits =
    count-covered script domain hits group from to sets (λ (e : SliceEntry). is_own_hit group e.what) hits (λ i task cpu line own. ap (λ (b : Bool). b && hits i cpu line) own) in
    record {
      uses = sym (accesses-joined script domain hits group (from + 1) (to - (from + 1))) ∙ (ap (accesses_of group) (sym held) ∙ sym counted.accesses);
      covers = sym all ∙ (length-filter_all (lru.covered sets group Flush window) ∙ (ap (λ (es : List SliceEntry). length (lru.covered sets group Flush es)) (sym held) ∙ sym counted.covers));
      covers_hits = sym those ∙ (length-filter (λ (e : SliceEntry). is_own_hit group e.what) (lru.covered sets group Flush window)
          ∙ (ap (λ (es : List SliceEntry). hits_of_group group (lru.covered sets group Flush es)) (sym held) ∙ sym counted.covers_hits));
    }

-- ---- in the segment after a flush

module _ (script : PairScriptValue) (j : LevelJournalsValue) (domain from last : ℕ) (played : IsPlayedOnLevels script j) (exists : domain < script.machines.machine.domains)
    (opens : op_at script from ≡ Some ops.Flush) (segment : IsSegment script (from + 1) last) (a b : List Bool) (first : AreHits script First j.l2 a) (second : AreHits script Second j.l3 b) where
  -- the epoch after the flush
  abbrev opened : ℕ
  opened = epoch_at script from + 1

  abbrev more : ℕ
  more = epoch_at script last - opened

  next : epoch_at script (from + 1) ≡ opened
  next = epoch_at-command script from ops.Flush opens refl

  -- the entries of the segment, where they hit by the L2, and where they hit by the L3
  abbrev entries_l2 : List SliceEntry
  entries_l2 = joined script domain (hit_l2 a) (from + 1) (last - (from + 1))

  abbrev entries_l3 : List SliceEntry
  entries_l3 = joined script domain (hit_l3 a b) (from + 1) (last - (from + 1))

  -- ---- one group

  module _ (g : PairGroup) (has : HasOwn script.machines domain g (state_at script opened)) where
    abbrev to : ℕ
    to = window_end script domain from (last_epoch script domain opened g)

    abbrev held : Span LevelMasks
    held = held_of script domain opened more g

    pub window_from-counted : (sets : ℕ) (l2 l3 : WindowCounts) → IsCounted sets Flush entries_l2 (stay_of held) l2 → IsCounted sets Flush entries_l3 (stay_of held) l3
        → window_from script domain j from g ≡ counted_window domain (epoch_at script from) held l2 l3
    window_from-counted sets l2 l3 in_l2 in_l3 =
        let final : ℕ = last_epoch script domain opened g in
        let mask : ℕ = mask_in Second domain g in
        let masks : ℕ → ℕ = λ x. mask_in First x g in
        let lawful = played.playable.lawful in
        let window = IsJointWindow-listed script domain from exists opens g has in
        let agree = CountsAgree-joint_window script j played.below domain from to g.gid mask masks final lawful played.levels played.run window in
        let x = CountsUses-joined script domain from to sets (hit_l2 a) entries_l2 (stay_of held) l2 (held-window script domain from last segment opened next g (hit_l2 a)) in_l2 in
        let y = CountsUses-joined script domain from to sets (hit_l3 a b) entries_l3 (stay_of held) l3 (held-window script domain from last segment opened next g (hit_l3 a b)) in_l3 in
        let hits = count-hits_l2 script j played.below domain from to g.gid mask masks final lawful played.levels played.run window a b first second in
        let asked = count-reaches_l3 script j played.below domain from to g.gid mask masks final lawful played.levels played.run window a b first second in
        let third = count-hits_l3 script j played.below domain from to g.gid mask masks final lawful played.levels played.run window a b first second in
        let missed = asked ∙ ap₂ (λ (m n : ℕ). m - n) x.covers x.covers_hits in
        JointWindow-same domain (epoch_at script from) g.gid _ _ _ _ _ _ _ _ _ _ _ _ _ _
        x.uses x.covers (hits ∙ x.covers_hits) (sym agree.l2 ∙ (hits ∙ x.covers_hits)) missed (third ∙ y.covers_hits) (sym agree.l3 ∙ (third ∙ y.covers_hits))

  -- ---- all of them

  abbrev groups : List PairGroup
  groups = exclusive_in (state_at script opened)

  windows-counted : (sets : ℕ) (l2 l3 : List WindowCounts) → AreCounted sets Flush entries_l2 (map stay_of (held_from script domain opened more)) l2
      → AreCounted sets Flush entries_l3 (map stay_of (held_from script domain opened more)) l3
      → counted_windows domain (epoch_at script from) (held_from script domain opened more) l2 l3 ≡ map (window_from script domain j from) groups
  windows-counted sets l2 l3 in_l2 in_l3 =
      let f : PairGroup → Span LevelMasks = held_of script domain opened more in
      let stays : length (map stay_of (map f groups)) ≡ length groups = length-map (map f groups) stay_of ∙ length-map groups f in
      counted_windows-map domain (epoch_at script from) f (window_from script domain j from) groups l2 l3 (in_l2.same ∙ stays) (in_l3.same ∙ stays)
      (λ i g c d lt.
      let x : PairGroup = get_or groups i g in
      let span : get_or (map f groups) i (f g) ≡ f x = get_or-map f groups i g (f g) lt in
      let stay : get_or (map stay_of (map f groups)) i (stay_of (f g)) ≡ stay_of (f x) = get_or-map stay_of (map f groups) i (f g) (stay_of (f g)) (subst (λ n. i < n) (sym (length-map groups f)) lt) ∙ ap stay_of span in
      let few : i < length (map stay_of (map f groups)) = subst (λ n. i < n) (sym stays) lt in
      window_from-counted x (HasLevels-exclusive script.machines domain script opened i g lt) sets (get_or l2 i c) (get_or l3 i d)
      (subst (λ (s : ExclusiveSpan). IsCounted sets Flush entries_l2 s (get_or l2 i c)) stay (in_l2.each i (stay_of (f g)) c few))
      (subst (λ (s : ExclusiveSpan). IsCounted sets Flush entries_l3 s (get_or l3 i d)) stay (in_l3.each i (stay_of (f g)) d few)))

  -- from the epoch at the place after the flush
  abbrev spans : List (Span LevelMasks)
  spans = held_from script domain (epoch_at script (from + 1)) (epoch_at script last - epoch_at script (from + 1))

  windows-held : (sets : ℕ) (l2 l3 : List WindowCounts) → AreCounted sets Flush entries_l2 (map stay_of spans) l2 → AreCounted sets Flush entries_l3 (map stay_of spans) l3
      → counted_windows domain (epoch_at script from) spans l2 l3 ≡ map (window_from script domain j from) groups
  windows-held sets l2 l3 in_l2 in_l3 =
      let same : spans ≡ held_from script domain opened more = ap (λ n. held_from script domain n (epoch_at script last - n)) next in
      ap (λ (hs : List (Span LevelMasks)). counted_windows domain (epoch_at script from) hs l2 l3) same
      ∙ windows-counted sets l2 l3 (subst (λ (hs : List (Span LevelMasks)). AreCounted sets Flush entries_l2 (map stay_of hs) l2) same in_l2) (subst (λ (hs : List (Span LevelMasks)). AreCounted sets Flush entries_l3 (map stay_of hs) l3) same in_l3)

-- the windows of all groups that are exclusive after a flush, by the counts of the segment after it
module _ (script : PairScriptValue) (j : LevelJournalsValue) (domain from last sets : ℕ) (a b : List Bool) (l2 l3 : List WindowCounts) where
  pub counted_windows-segment :
      IsPlayedOnLevels script j → domain < script.machines.machine.domains → op_at script from ≡ Some ops.Flush → IsSegment script (from + 1) last
      → AreHits script First j.l2 a → AreHits script Second j.l3 b
      → AreCounted sets Flush (joined script domain (hit_l2 a) (from + 1) (last - (from + 1))) (map stay_of (held_from script domain (epoch_at script (from + 1)) (epoch_at script last - epoch_at script (from + 1)))) l2
      → AreCounted sets Flush (joined script domain (hit_l3 a b) (from + 1) (last - (from + 1))) (map stay_of (held_from script domain (epoch_at script (from + 1)) (epoch_at script last - epoch_at script (from + 1)))) l3
      → counted_windows domain (epoch_at script from) (held_from script domain (epoch_at script (from + 1)) (epoch_at script last - epoch_at script (from + 1))) l2 l3
      ≡ map (window_from script domain j from) (exclusive_after script domain j from)
  counted_windows-segment played exists opens segment first second in_l2 in_l3 = windows-held script j domain from last played exists opens segment a b first second sets l2 l3 in_l2 in_l3
