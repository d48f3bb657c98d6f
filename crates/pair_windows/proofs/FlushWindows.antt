-- The windows that begin at one flush, as they are counted.
use Rattle.std.proofs.Common.{◌≡◌, ℕ, ◌+◌, ◌-◌, ◌<◌, ◌≤◌, true, List, length, map, filter, take, drop, get_or, inl, inr, sym, subst, ap, ◌∙◌, arith}
use Rattle.std.specs.List.{All, position_or_len}
use Rattle.std.proofs.lemmas.Bool.{cases_lt}
use Rattle.std.proofs.lemmas.List.{get_or-drop, get_or-map, get_or-take, get_or_default, length-drop, length-map, length-take-le}
use Rattle.std.proofs.lemmas.Option.{get_or_from_slice_get, slice_get-get_or, slice_get_within}
use Rattle.cache_core.specs.Filled.{empties}
use Rattle.cache_core.specs.declared.entry.SliceEntry.{SliceEntry}
use Rattle.cache_core.specs.declared.entry.What.{What}
use Rattle.cache_core.specs.declared.entry.What.TheVariants.{Flush}
use Rattle.cbm.specs.Masks.{ways_of}
use Rattle.pair_law.specs.Epochs.{state_at}
use Rattle.pair_text.specs.Values.{PairScriptValue, commands_of}
use Rattle.pair_law.proofs.laws.CdpEntries.{IsCdpRun-given}
use Rattle.pair_law.proofs.laws.CdpWindows.{IsIsolated-cdp_window}
use Rattle.pair_law.specs.CdpRuns.{CdpJournalsValue}
use Rattle.pair_law.specs.Entries.{slice_in}
use Rattle.pair_windows.proofs.CountedWindows.{counted_windows-map}
use Rattle.pair_windows.proofs.ListedWindows.{IsCdpWindow-listed, is_kept-partitions, window_to}
use Rattle.pair_windows.proofs.laws.RisingEpochs.{RiseByEpoch-run}
use Rattle.pair_windows.proofs.laws.RisingGroups.{RiseByGid-state_at}
use Rattle.pair_windows.proofs.laws.WindowFronts.{window_front-front, window_of-counted}
use Rattle.pair_windows.specs.CdpJournals.{IsPlayed}
use Rattle.pair_windows.specs.CdpWindows.{ends_window, is_used, owner_of_partition, window_from, window_front, windows_from}
use Rattle.pair_windows.specs.Counted.{RiseByEpoch, counted_window, counted_windows}
use Rattle.pair_windows.specs.Fronts.{front_len, front_of}
use Rattle.pair_windows.specs.PartitionSpans.{kept_from, kept_of, stay_of}
use Rattle.pair_windows.specs.Partitions.{is_kept, is_kept_at, last_epoch, partitions_in}
use Rattle.pair_windows.specs.declared.cdp_window.CdpWindow.{CdpWindow}
use Rattle.private_lru.proofs.laws.LastEpochs.{last_within-fewer}
use Rattle.private_lru.proofs.laws.LongerSpans.{map-after}
use Rattle.private_lru.specs.declared.span.Span.{Span}
use Rattle.pair_windows.specs.declared.partition.Partition.{Partition}
use Rattle.private_lru.proofs.laws.CoveredHits.{hits_of_group-covered}
use Rattle.private_lru.specs.Covered.{covered}
use Rattle.private_lru.specs.GroupCounts.{covered_private_hits, hits_of_group}
use Rattle.private_lru.specs.Isolation.{IsIsolated, between}
use Rattle.private_lru.specs.declared.counts.WindowCounts.{WindowCounts}
use Rattle.run_law.specs.Journals.{At}
use Rattle.private_lru.proofs.laws.FirstPlaces.{position_or_len-le}
use Rattle.private_lru.specs.Ends.{held_len}
use Rattle.private_lru.specs.Tallies.{AreCounted, IsCounted}
use Rattle.private_lru.specs.declared.exclusive_span.ExclusiveSpan.{ExclusiveSpan}

module _ (script : PairScriptValue) (j : CdpJournalsValue) (domain from : ℕ) (opening : SliceEntry) (played : IsPlayed script j) (exists : domain < script.machines.machine.domains)
    (opens : At (slice_in j.slices domain) from opening) (flush : opening.what ≡ Flush) where
  abbrev entries : List SliceEntry
  entries = slice_in j.slices domain

  abbrev rest : List SliceEntry
  rest = drop (from + 1) entries

  abbrev len : ℕ
  len = front_len rest

  abbrev front : List SliceEntry
  front = front_of rest

  -- the epoch of the last entry before the next flush
  abbrev pub bound : ℕ
  bound = (get_or entries (from + len) opening).epoch

  inside : from < length entries
  inside = slice_get_within entries from opening opens

  len-le : len ≤ length rest
  len-le = position_or_len-le (λ (e : SliceEntry). empties e.what) rest

  rise : RiseByEpoch entries
  rise = RiseByEpoch-run script domain j played.run exists

  -- entries in order
  epoch-rises : (i k : ℕ) (d : SliceEntry) → i ≤ k → k < length entries → (get_or entries i d).epoch ≤ (get_or entries k d).epoch
  epoch-rises i k d le lt = elim (cases_lt i k) [
    | inl less ↦ rise i k d less lt
    | inr ge ↦ let same : i ≡ k = omega (arith, le, ge) in let is = ap (λ n. (get_or entries n d).epoch) same in omega (arith, is)
  ]

  last-inside : from + len < length entries
  last-inside = omega (arith, inside, len-le, length-drop (from + 1) entries)

  -- the epochs that matter
  pub opening-bound : opening.epoch ≤ bound
  opening-bound = let first = ap (λ (e : SliceEntry). e.epoch) (get_or_from_slice_get entries from opening opening opens) in let le = epoch-rises from (from + len) opening (omega arith) last-inside in omega (arith, first, le)

  pub bound-known : bound ≤ length (commands_of script)
  bound-known = (IsCdpRun-given script domain j (from + len) (get_or entries (from + len) opening) played.run exists (slice_get-get_or entries (from + len) opening last-inside)).known

  front-bound : All (λ (e : SliceEntry). e.epoch ≤ bound) front
  front-bound = λ q d within.
      let few : q < len = omega (arith, within, length-take-le len rest len-le) in
      let at : get_or front q d ≡ get_or entries (from + 1 + q) d = get_or-take len rest q d few ∙ get_or-drop (from + 1) entries q d in
      let other : get_or entries (from + 1 + q) d ≡ get_or entries (from + 1 + q) opening = get_or_default entries (from + 1 + q) d opening (omega (arith, few, last-inside)) in
      let is = ap (λ (e : SliceEntry). e.epoch) (at ∙ other) in
      let le = epoch-rises (from + 1 + q) (from + len) opening (omega (arith, few)) last-inside in
      omega (arith, is, le)

  -- ---- one partition

  module _ (p : Partition) (kept : is_kept domain p (state_at script opening.epoch) ≡ true) where
    abbrev window : List SliceEntry
    window = window_front (last_epoch script domain p opening.epoch) rest

    -- its entries
    window-held : window ≡ take (held_len (kept_of script domain opening.epoch (bound - opening.epoch) p).last front) front
    window-held = window_front-front (last_epoch script domain p opening.epoch) (kept_of script domain opening.epoch (bound - opening.epoch) p).last rest
        (λ q d within. let le = front-bound q d within in let first = opening-bound in let known = bound-known in
        last_within-fewer (is_kept_at script domain p) opening.epoch (bound - opening.epoch) (length (commands_of script) - opening.epoch) (get_or front q d).epoch (omega (arith, first, known)) (omega (arith, first, le)))

    -- its private hits
    private-covered : hits_of_group (owner_of_partition p) (covered script.machines.machine.sets (owner_of_partition p) Flush window)
        ≡ covered_private_hits script.machines.machine.sets (owner_of_partition p) (length (ways_of p.mask)) Flush window
    private-covered =
        let to : ℕ = window_to script j domain from opening p in
        let isolated = IsIsolated-cdp_window script j domain from to opening p.gid p.side p.mask (last_epoch script domain p opening.epoch) played.playable.lawful played.prioritized played.run
        (IsCdpWindow-listed script j domain from opening p played.run exists opens flush kept) in
        let n : ℕ = position_or_len (ends_window (last_epoch script domain p opening.epoch)) rest in
        let count : from + 1 + n - (from + 1) ≡ n = omega arith in
        let same : between entries from to ≡ window = ap (λ k. take k rest) count in
        hits_of_group-covered script.machines.machine.sets (owner_of_partition p) (length (ways_of p.mask)) Flush window
        (subst (λ (l : List SliceEntry). IsIsolated script.machines.machine.sets (owner_of_partition p) (length (ways_of p.mask)) Flush l) same
        (subst (λ (w : What). IsIsolated script.machines.machine.sets (owner_of_partition p) (length (ways_of p.mask)) w (between entries from to)) flush isolated))

    pub window_from-counted : (c : WindowCounts) → IsCounted script.machines.machine.sets Flush front (stay_of (kept_of script domain opening.epoch (bound - opening.epoch) p)) c
        → window_from script domain entries from opening.epoch p ≡ counted_window domain from p c
    window_from-counted c counted =
        window_of-counted script.machines.machine.sets domain from (kept_of script domain opening.epoch (bound - opening.epoch) p) window front c window-held counted private-covered

  -- ---- all of them

  abbrev parts : List Partition
  parts = partitions_in domain (state_at script opening.epoch)

  abbrev pub kept_parts : List (Span Partition)
  kept_parts = kept_from script domain opening.epoch (bound - opening.epoch)

  pub windows_from-counted : (counts : List WindowCounts) → AreCounted script.machines.machine.sets Flush front (map stay_of kept_parts) counts
      → windows_from script domain entries from opening.epoch ≡ filter is_used (counted_windows domain from kept_parts counts)
  windows_from-counted counts are =
      let f : Span Partition → CdpWindow = λ k. window_from script domain entries from opening.epoch k.held in
      let same : length counts ≡ length kept_parts = are.same ∙ length-map kept_parts stay_of in
      let each : (i : ℕ) (k : Span Partition) (c : WindowCounts) → i < length kept_parts → f (get_or kept_parts i k) ≡ counted_window domain from (get_or kept_parts i k).held (get_or counts i c) = (λ i k c lt.
      let few : i < length parts = omega (arith, lt, length-map parts (kept_of script domain opening.epoch (bound - opening.epoch))) in
      let p : Partition = get_or parts i k.held in
      let is : get_or kept_parts i k ≡ kept_of script domain opening.epoch (bound - opening.epoch) p = get_or-map (kept_of script domain opening.epoch (bound - opening.epoch)) parts i k.held k few in
      let counted = are.each i (stay_of k) c (subst (λ n. i < n) (sym (length-map kept_parts stay_of)) lt) in
      let stay : get_or (map stay_of kept_parts) i (stay_of k) ≡ stay_of (kept_of script domain opening.epoch (bound - opening.epoch) p) = get_or-map stay_of kept_parts i k (stay_of k) lt ∙ ap stay_of is in
      let kept = is_kept-partitions domain (state_at script opening.epoch) (RiseByGid-state_at script opening.epoch).rising i k.held few in
      ap f is ∙ (window_from-counted p kept (get_or counts i c) (subst (λ (s : ExclusiveSpan). IsCounted script.machines.machine.sets Flush front s (get_or counts i c)) stay counted)
      ∙ ap (λ (x : Span Partition). counted_window domain from x.held (get_or counts i c)) (sym is))) in
      ap (filter is_used) (sym (map-after f (kept_of script domain opening.epoch (bound - opening.epoch)) parts) ∙ counted_windows-map domain from f kept_parts counts same each)
