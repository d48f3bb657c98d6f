-- The windows of a domain that begin before a place.
use Rattle.std.proofs.Common.{◌≡◌, ℕ, ◌+◌, false, List, [], ◌++◌, drop, Option, None, Some, refl, ap, ◌∙◌, arith}
use Rattle.std.specs.List.{flat_map, range_with_len, slice_get}
use Rattle.std.proofs.lemmas.List.{append-nil}
use Rattle.cache_core.specs.declared.entry.SliceEntry.{SliceEntry}
use Rattle.pair_text.specs.Values.{PairScriptValue}
use Rattle.pair_law.proofs.laws.Cuts.{flat_map-range_at}
use Rattle.pair_windows.proofs.CountedWindows.{windows_by-other}
use Rattle.pair_windows.proofs.FlushedWindows.{flat_map-range_none}
use Rattle.pair_windows.proofs.NextFlushes.{next-quiet}
use Rattle.pair_windows.specs.CdpWalks.{IsOpen, windows_before}
use Rattle.pair_windows.specs.CdpWindows.{windows_at, windows_by, windows_from}
use Rattle.pair_windows.specs.Fronts.{flush_len, is_flush}
use Rattle.pair_windows.specs.declared.cdp_walks.OpenFlush.{OpenFlush}
use Rattle.pair_windows.specs.declared.cdp_window.CdpWindow.{CdpWindow}
use Rattle.private_lru.proofs.laws.FirstPlaces.{position_or_len-before}
use Rattle.run_law.specs.Journals.{At}

module _ (script : PairScriptValue) (domain : ℕ) (entries : List SliceEntry) where
  -- what is no flush begins none
  windows_at-quiet : (k : ℕ) (o : Option SliceEntry) → slice_get entries k ≡ o → ((e : SliceEntry) → At entries k e → is_flush e.what ≡ false) → windows_at script domain entries k (slice_get entries k) ≡ []
  windows_at-quiet k None is quiet = ap (windows_at script domain entries k) is
  windows_at-quiet k (Some e) is quiet = ap (windows_at script domain entries k) is ∙ windows_by-other script domain entries k e.epoch e.what (quiet e is)

  -- none begins before the first flush
  pub windows_before-first : windows_before script domain entries (flush_len entries) ≡ []
  windows_before-first =
      flat_map-range_none (λ k. windows_at script domain entries k (slice_get entries k)) 0 (flush_len entries)
      (λ k low high. windows_at-quiet k (slice_get entries k) refl (λ e at. position_or_len-before (λ (x : SliceEntry). is_flush x.what) entries k e at (omega (arith, high))))

  -- those that begin at a flush are all up to the next one
  pub windows_before-next : (next : ℕ) (o : OpenFlush) (opening : SliceEntry) → IsOpen script entries domain next o → At entries o.from opening
      → windows_before script domain entries next ≡ windows_before script domain entries o.from ++ windows_from script domain entries o.from opening.epoch
  windows_before-next next o opening is opens =
      let from : ℕ = o.from in
      let f : ℕ → List CdpWindow = λ k. windows_at script domain entries k (slice_get entries k) in
      let n : ℕ = flush_len (drop (from + 1) entries) in
      let total = is.ends in
      let cut : windows_before script domain entries next ≡ windows_before script domain entries from ++ (f from ++ flat_map f (range_with_len (from + 1) n)) = flat_map-range_at f 0 from n next from (omega (arith, total)) (omega arith) in
      let none : flat_map f (range_with_len (from + 1) n) ≡ [] =
      flat_map-range_none f (from + 1) n (λ k low high. windows_at-quiet k (slice_get entries k) refl (λ e at. next-quiet entries from k e at low (omega (arith, high)))) in
      let here : f from ≡ windows_from script domain entries from opening.epoch = ap (windows_at script domain entries from) opens ∙ ap (windows_by script domain entries from opening.epoch) (is.flush opening opens) in
      cut ∙ ap (λ (l : List CdpWindow). windows_before script domain entries from ++ l) (ap (λ (l : List CdpWindow). f from ++ l) none ∙ (append-nil (f from) ∙ here))
