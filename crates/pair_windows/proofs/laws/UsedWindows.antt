-- The windows that are listed are those of the run in which their sides use lines.
use Rattle.std.proofs.Common.{◌≡◌, ℕ, ◌+◌, ◌-◌, List, length, drop, map, Contains, inl, refl, sym, subst, ap, ◌∙◌, arith}
use Rattle.std.specs.List.{All, AllPairs, range_with_len, slice_get}
use Rattle.std.proofs.lemmas.Bool.{lt-ltb}
use Rattle.std.proofs.lemmas.List.Elements.{All-weaker}
use Rattle.std.proofs.lemmas.Option.{slice_get_within}
use Rattle.cache_core.specs.declared.entry.SliceEntry.{SliceEntry}
use Rattle.cache_core.specs.declared.entry.What.{What}
use Rattle.cache_core.specs.declared.entry.What.TheVariants.{Flush}
use Rattle.cbm.specs.Masks.{ways_of}
use Rattle.lists.proofs.Pairs.{All-flat_map}
use Rattle.pair_law.specs.Epochs.{state_at}
use Rattle.pair_text.specs.Values.{PairScriptValue}
use Rattle.pair_text.specs.declared.side.Side.{Side}
use Rattle.pair_law.proofs.laws.CdpWindows.{IsIsolated-cdp_window}
use Rattle.pair_law.proofs.laws.WindowExtents.{IsCdpWindow-same}
use Rattle.pair_law.specs.CdpRuns.{CdpJournalsValue, IsCdpRun, owner_on}
use Rattle.pair_law.specs.CdpWindows.{IsAlone}
use Rattle.pair_law.specs.Entries.{slice_in}
use Rattle.pair_windows.proofs.AlonePartitions.{Contains-partitions}
use Rattle.pair_windows.proofs.DomainUsedWindows.{between-front, each-in, ordered-in, domain-in}
use Rattle.pair_windows.proofs.ListedWindows.{IsCdpWindow-listed, is_kept-alone, window_to}
use Rattle.pair_windows.proofs.laws.Listings.{All-numbers, AllPairs-numbers, Contains-filtered, Contains-flat_mapped, Contains-mapped, Contains-range}
use Rattle.pair_windows.specs.AllCdpWindows.{CdpWindowsAreListed, IsUsedCdpWindow, PrecedesInCdp}
use Rattle.pair_windows.specs.CdpWindows.{cdp_windows, is_used, window_from, window_front, windows_at, windows_by, windows_from, windows_in}
use Rattle.pair_windows.specs.Partitions.{last_epoch, partitions_in}
use Rattle.pair_windows.specs.declared.cdp_window.CdpWindow.{CdpWindow}
use Rattle.pair_windows.specs.declared.partition.Partition.{Partition}
use Rattle.private_lru.proofs.laws.CoveredHits.{hits_of_group-covered}
use Rattle.private_lru.specs.Covered.{covered}
use Rattle.private_lru.specs.GroupCounts.{accesses_of, covered_private_hits, hits_of_group}
use Rattle.private_lru.specs.Isolation.{IsIsolated, between}
use Rattle.rc_base.specs.declared.names.Gid.{Gid}

abbrev made : ℕ → Gid → Side → ℕ → ℕ → ℕ → ℕ → ℕ → ℕ → ℕ → CdpWindow
made domain gid side from ways accesses hits covers covered_hits private = record {
  domain = domain;
  gid = gid;
  side = side;
  ways = ways;
  from = from;
  accesses = accesses;
  hits = hits;
  covered = covers;
  covered_hits = covered_hits;
  private = private;
}

made-same : (domain : ℕ) (gid : Gid) (side : Side) (from ways accesses hits covers covered_hits private ways' accesses' hits' covers' covered_hits' private' : ℕ)
    → ways ≡ ways' → accesses ≡ accesses' → hits ≡ hits' → covers ≡ covers' → covered_hits ≡ covered_hits' → private ≡ private'
    → made domain gid side from ways accesses hits covers covered_hits private ≡ made domain gid side from ways' accesses' hits' covers' covered_hits' private'
made-same domain gid side from ways accesses hits covers covered_hits private ways' accesses' hits' covers' covered_hits' private' a b c d e f = rw (a, b, c, d, e, f) refl

-- ---- the windows of a run

module _ (script : PairScriptValue) (j : CdpJournalsValue) (run : IsCdpRun script j) where
  -- the windows of a domain
  abbrev of_domain : ℕ → List CdpWindow
  of_domain domain = windows_in script domain (slice_in j.slices domain)

  each-listed : All (IsUsedCdpWindow script j) (cdp_windows script j)
  each-listed = All-flat_map (IsUsedCdpWindow script j) of_domain (range_with_len 0 script.machines.machine.domains)
      (All-numbers script.machines.machine.domains (λ domain. All (IsUsedCdpWindow script j) (of_domain domain)) (λ domain exists. each-in script j run domain exists))

  ordered-listed : AllPairs PrecedesInCdp (cdp_windows script j)
  ordered-listed = AllPairs-numbers of_domain script.machines.machine.domains PrecedesInCdp (λ domain (w : CdpWindow). w.domain ≡ domain)
      (λ domain exists. domain-in script j run domain exists) (λ domain exists. ordered-in script j run domain exists)
      (λ i k x y lt one two. inl (omega (arith, lt, one, two)))

  -- every one is listed
  all-listed : (w : CdpWindow) → IsUsedCdpWindow script j w → Contains (cdp_windows script j) w
  all-listed w u =
      let entries : List SliceEntry = slice_in j.slices w.domain in
      let epoch : ℕ = u.opening.epoch in
      let p : Partition = record { gid = w.gid; side = w.side; mask = u.mask } in
      let parts : List Partition = partitions_in w.domain (state_at script epoch) in
      let alone : IsAlone w.domain w.gid w.side u.mask (state_at script epoch) = u.is.alone.always epoch (omega arith) u.is.alone.from_first in
      let part : Contains parts p = Contains-partitions w.domain (state_at script epoch) p alone in
      let is_window = IsCdpWindow-listed script j w.domain w.from u.opening p run u.is.domain_exists u.is.opens u.is.flush (is_kept-alone w.domain p (state_at script epoch) alone) in
      let to : ℕ = window_to script j w.domain w.from u.opening p in
      let same : u.to ≡ to =
      (IsCdpWindow-same script j w.domain w.from u.to to u.opening u.opening w.gid w.side u.mask u.mask u.last (last_epoch script w.domain p epoch) u.is is_window).same_end in
      let front : List SliceEntry = window_front (last_epoch script w.domain p epoch) (drop (w.from + 1) entries) in
      let es : front ≡ between entries w.from u.to = sym (ap (between entries w.from) same ∙ between-front script j run w.domain u.is.domain_exists w.from u.opening u.is.opens u.is.flush p) in
      let sets : ℕ = script.machines.machine.sets in
      let owner : ℕ = (owner_on w.gid w.side).0 in
      let listed : CdpWindow = window_from script w.domain entries w.from epoch p in
      let is : listed ≡ w = made-same w.domain w.gid w.side w.from (length (ways_of u.mask)) listed.accesses listed.hits listed.covered listed.covered_hits listed.private
      w.ways w.accesses w.hits w.covered w.covered_hits w.private
      (sym u.counts.ways_is)
      (ap (accesses_of owner) es ∙ sym u.counts.accesses_is)
      (ap (hits_of_group owner) es ∙ sym u.counts.hits_is)
      (ap (λ (l : List SliceEntry). length (covered sets owner Flush l)) es ∙ sym u.counts.covered_is)
      (ap (λ (l : List SliceEntry). hits_of_group owner (covered sets owner Flush l)) es ∙ sym u.counts.covered_hits_is)
      (ap (covered_private_hits sets owner (length (ways_of u.mask)) Flush) es ∙ sym u.counts.private_is) in
      let here : Contains (windows_from script w.domain entries w.from epoch) w =
      Contains-filtered is_used (map (window_from script w.domain entries w.from epoch) parts) w (lt-ltb 0 w.accesses u.used)
      (subst (Contains (map (window_from script w.domain entries w.from epoch) parts)) is (Contains-mapped (window_from script w.domain entries w.from epoch) parts p part)) in
      let at : windows_at script w.domain entries w.from (slice_get entries w.from) ≡ windows_from script w.domain entries w.from epoch =
      ap (windows_at script w.domain entries w.from) u.is.opens ∙ ap (windows_by script w.domain entries w.from epoch) u.is.flush in
      Contains-flat_mapped of_domain (range_with_len 0 script.machines.machine.domains) w.domain w (Contains-range script.machines.machine.domains w.domain u.is.domain_exists)
      (Contains-flat_mapped (λ from. windows_at script w.domain entries from (slice_get entries from)) (range_with_len 0 (length entries)) w.from w
      (Contains-range (length entries) w.from (slice_get_within entries w.from u.opening u.is.opens))
      (subst (λ (l : List CdpWindow). Contains l w) (sym at) here))

-- ---- the law

pub AreCdpWindowsOf-listed : CdpWindowsAreListed
AreCdpWindowsOf-listed script j lawful none run = record {
  each = each-listed script j run;
  all = all-listed script j run;
  ordered = ordered-listed script j run;
  as_private = All-weaker (IsUsedCdpWindow script j) (λ (w : CdpWindow). w.covered_hits ≡ w.private) as_private (cdp_windows script j) (each-listed script j run);
}
  where
    -- the covered accesses hit as in a private cache, since the window is isolated
    as_private : (w : CdpWindow) → IsUsedCdpWindow script j w → w.covered_hits ≡ w.private
    as_private w u =
        let sets : ℕ = script.machines.machine.sets in
        let owner : ℕ = (owner_on w.gid w.side).0 in
        let ways : ℕ = length (ways_of u.mask) in
        let es : List SliceEntry = between (slice_in j.slices w.domain) w.from u.to in
        let isolated = IsIsolated-cdp_window script j w.domain w.from u.to u.opening w.gid w.side u.mask u.last lawful none run u.is in
        u.counts.covered_hits_is
        ∙ (hits_of_group-covered sets owner ways Flush es (subst (λ (what : What). IsIsolated sets owner ways what es) u.is.flush isolated)
        ∙ sym u.counts.private_is)
