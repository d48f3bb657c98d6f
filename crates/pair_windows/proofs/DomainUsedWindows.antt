-- The windows that are listed in a domain are those in which their sides use lines.
use Rattle.std.proofs.Common.{◌≡◌, ℕ, ◌+◌, ◌-◌, ◌<◌, true, List, [], length, take, drop, map, Option, Some, None, inl, inr, refl, sym, ap, ◌∙◌, arith}
use Rattle.std.specs.List.{All, AllPairs, position_or_len, range_with_len, slice_get}
use Rattle.std.proofs.lemmas.Bool.{ltb-true}
use Rattle.std.proofs.lemmas.List.Elements.{All-map, All-nil, All-weaker}
use Rattle.std.proofs.lemmas.List.Kept.{AllPairs-filter}
use Rattle.cache_core.specs.declared.entry.SliceEntry.{SliceEntry}
use Rattle.cache_core.specs.declared.entry.What.{What}
use Rattle.cache_core.specs.declared.entry.What.TheVariants.{Access, Drop, Flush, Lock, Look, Raise}
use Rattle.cbm.specs.Masks.{ways_of}
use Rattle.lists.proofs.Pairs.{All-flat_map, AllPairs-map}
use Rattle.lists.proofs.Tests.{All-kept}
use Rattle.pair_law.specs.Epochs.{state_at}
use Rattle.pair_law.specs.State.{PairState}
use Rattle.pair_text.specs.Values.{PairScriptValue}
use Rattle.pair_law.specs.CdpRuns.{CdpJournalsValue, IsCdpRun, owner_on}
use Rattle.pair_law.specs.Entries.{slice_in}
use Rattle.pair_windows.proofs.ListedWindows.{IsCdpWindow-listed, is_kept-partitions, window_to}
use Rattle.pair_windows.proofs.RisingStays.{Before-partitions}
use Rattle.pair_windows.proofs.laws.Listings.{All-numbers, AllPairs-numbers}
use Rattle.pair_windows.proofs.laws.RisingGroups.{RiseByGid-state_at}
use Rattle.pair_windows.specs.AllCdpWindows.{IsUsedCdpWindow, PrecedesInCdp}
use Rattle.pair_windows.specs.CdpWindows.{ends_window, is_used, window_from, window_front, windows_at, windows_by, windows_from, windows_in}
use Rattle.pair_windows.specs.Partitions.{is_kept, last_epoch, partitions_in}
use Rattle.pair_windows.specs.declared.cdp_window.CdpWindow.{CdpWindow}
use Rattle.pair_windows.specs.declared.partition.Partition.{Partition}
use Rattle.private_lru.specs.Covered.{covered}
use Rattle.private_lru.specs.GroupCounts.{accesses_of, covered_private_hits, hits_of_group}
use Rattle.private_lru.specs.Isolation.{between}
use Rattle.run_law.specs.Journals.{At}

module _ (script : PairScriptValue) (domain : ℕ) (entries : List SliceEntry) where
  -- those of a flush, or none
  by-either : (Q : List CdpWindow → Type 0) → Q [] → (from epoch : ℕ) (what : What) → (what ≡ Flush → Q (windows_from script domain entries from epoch)) → Q (windows_by script domain entries from epoch what)
  by-either Q none from epoch Flush some = some refl
  by-either Q none from epoch (Access hit way owner rmid mask line) some = none
  by-either Q none from epoch Raise some = none
  by-either Q none from epoch (Lock mask first_line) some = none
  by-either Q none from epoch (Look rmid lines) some = none
  by-either Q none from epoch (Drop line at) some = none

  at-either : (Q : List CdpWindow → Type 0) → Q [] → (from : ℕ) → ((e : SliceEntry) → At entries from e → e.what ≡ Flush → Q (windows_from script domain entries from e.epoch)) → Q (windows_at script domain entries from (slice_get entries from))
  at-either Q none from some = of (slice_get entries from) refl
    where
      of : (o : Option SliceEntry) → slice_get entries from ≡ o → Q (windows_at script domain entries from o)
      of None is = none
      of (Some e) is = by-either Q none from e.epoch e.what (λ flush. some e is flush)

-- ---- the windows of a domain

module _ (script : PairScriptValue) (j : CdpJournalsValue) (run : IsCdpRun script j) where
  module _ (domain : ℕ) (exists : domain < script.machines.machine.domains) where
    abbrev entries : List SliceEntry
    entries = slice_in j.slices domain

    module _ (from : ℕ) (opening : SliceEntry) (opens : At entries from opening) (flush : opening.what ≡ Flush) where
      -- the state in which the windows begin
      abbrev s : PairState
      s = state_at script opening.epoch

      -- the window of a partition
      abbrev listed : Partition → CdpWindow
      listed p = window_from script domain entries from opening.epoch p

      -- its entries
      pub between-front : (p : Partition) → between entries from (window_to script j domain from opening p) ≡ window_front (last_epoch script domain p opening.epoch) (drop (from + 1) entries)
      between-front p =
          let n : ℕ = position_or_len (ends_window (last_epoch script domain p opening.epoch)) (drop (from + 1) entries) in
          let count : from + 1 + n - (from + 1) ≡ n = omega arith in
          ap (λ k. take k (drop (from + 1) entries)) count

      IsUsed-listed : (p : Partition) → is_kept domain p s ≡ true → is_used (listed p) ≡ true → IsUsedCdpWindow script j (listed p)
      IsUsed-listed p kept used =
          let same = sym (between-front p) in
          let sets : ℕ = script.machines.machine.sets in
          let owner : ℕ = (owner_on p.gid p.side).0 in
          record {
            to = window_to script j domain from opening p;
            opening = opening;
            mask = p.mask;
            last = last_epoch script domain p opening.epoch;
            is = IsCdpWindow-listed script j domain from opening p run exists opens flush kept;
            counts = record {
              ways_is = refl;
              accesses_is = ap (accesses_of owner) same;
              hits_is = ap (hits_of_group owner) same;
              covered_is = ap (λ (es : List SliceEntry). length (covered sets owner Flush es)) same;
              covered_hits_is = ap (λ (es : List SliceEntry). hits_of_group owner (covered sets owner Flush es)) same;
              private_is = ap (covered_private_hits sets owner (length (ways_of p.mask)) Flush) same;
            };
            used = ltb-true 0 (listed p).accesses used;
          }

      -- each that is listed is one
      each-from : All (IsUsedCdpWindow script j) (windows_from script domain entries from opening.epoch)
      each-from =
          let parts : List Partition = partitions_in domain s in
          let all : All (λ (w : CdpWindow). is_used w ≡ true → IsUsedCdpWindow script j w) (map listed parts) =
          All-map (λ (w : CdpWindow). is_used w ≡ true → IsUsedCdpWindow script j w) listed parts
          (All-weaker (λ (p : Partition). is_kept domain p s ≡ true) (λ (p : Partition). is_used (listed p) ≡ true → IsUsedCdpWindow script j (listed p)) (λ p kept. IsUsed-listed p kept) parts
          (is_kept-partitions domain s (RiseByGid-state_at script opening.epoch).rising)) in
          All-kept (IsUsedCdpWindow script j) is_used (map listed parts) (λ k d within is. all k d within is)

      -- in order
      ordered-from : AllPairs PrecedesInCdp (windows_from script domain entries from opening.epoch)
      ordered-from =
          AllPairs-filter PrecedesInCdp is_used (map listed (partitions_in domain s))
          (AllPairs-map PrecedesInCdp listed (partitions_in domain s)
          (λ i k d lt within. inr (refl, inr (refl, Before-partitions domain s.groups (RiseByGid-state_at script opening.epoch).rising i k d lt within))))

      -- with their place
      place-from : All (λ (w : CdpWindow). (w.domain ≡ domain) × (w.from ≡ from)) (windows_from script domain entries from opening.epoch)
      place-from =
          All-kept (λ (w : CdpWindow). (w.domain ≡ domain) × (w.from ≡ from)) is_used (map listed (partitions_in domain s))
          (λ k d within is. All-map (λ (w : CdpWindow). (w.domain ≡ domain) × (w.from ≡ from)) listed (partitions_in domain s) (λ i e lt. (refl, refl)) k d within)

    -- the windows that begin at an entry
    abbrev f : ℕ → List CdpWindow
    f from = windows_at script domain entries from (slice_get entries from)

    pub each-in : All (IsUsedCdpWindow script j) (windows_in script domain entries)
    each-in = All-flat_map (IsUsedCdpWindow script j) f (range_with_len 0 (length entries))
        (All-numbers (length entries) (λ from. All (IsUsedCdpWindow script j) (f from))
        (λ from lt. at-either script domain entries (All (IsUsedCdpWindow script j)) (All-nil (IsUsedCdpWindow script j)) from (λ e opens flush. each-from from e opens flush)))

    place-at : (from : ℕ) → All (λ (w : CdpWindow). (w.domain ≡ domain) × (w.from ≡ from)) (f from)
    place-at from = at-either script domain entries (All (λ (w : CdpWindow). (w.domain ≡ domain) × (w.from ≡ from))) (All-nil (λ (w : CdpWindow). (w.domain ≡ domain) × (w.from ≡ from))) from (λ e opens flush. place-from from e opens flush)

    pub ordered-in : AllPairs PrecedesInCdp (windows_in script domain entries)
    ordered-in = AllPairs-numbers f (length entries) PrecedesInCdp (λ from (w : CdpWindow). (w.domain ≡ domain) × (w.from ≡ from))
        (λ from lt. place-at from)
        (λ from lt. at-either script domain entries (AllPairs PrecedesInCdp) (λ i k d less within. absurd (omega (arith, within))) from (λ e opens flush. ordered-from from e opens flush))
        (λ i k x y lt one two. let a = one.1 in let b = two.1 in inr (one.0 ∙ sym two.0, inl (omega (arith, lt, a, b))))

    pub domain-in : All (λ (w : CdpWindow). w.domain ≡ domain) (windows_in script domain entries)
    domain-in = All-flat_map (λ (w : CdpWindow). w.domain ≡ domain) f (range_with_len 0 (length entries))
        (All-numbers (length entries) (λ from. All (λ (w : CdpWindow). w.domain ≡ domain) (f from)) (λ from lt k d within. (place-at from k d within).0))
