-- One domain of a run with code and data prioritization, flush by flush.
use Rattle.std.proofs.Common.{◌≡◌, ℕ, ◌+◌, ◌-◌, ◌<◌, ◌≤◌, List, [], map, drop, get_or, inl, inr, refl, sym, ap, ◌∙◌, arith}
use Rattle.std.specs.Prelude.{Vec}
use Rattle.std.specs.declared.alloc.Global.{Global}
use Rattle.std.specs.List.{slice_get}
use Rattle.std.proofs.lemmas.Bool.{cases_lt}
use Rattle.std.proofs.lemmas.Option.{slice_get-get_or}
use Rattle.cache_core.specs.declared.entry.SliceEntry.{SliceEntry}
use Rattle.pair_law.specs.Epochs.{state_at}
use Rattle.pair_law.specs.State.{PairState}
use Rattle.pair_text.specs.Values.{PairScriptValue}
use Rattle.pair_windows.proofs.CountedWindows.{what-flush}
use Rattle.pair_windows.proofs.EarlierWindows.{windows_before-first}
use Rattle.pair_windows.proofs.NextFlushes.{front_len-flush_len, rises-at}
use Rattle.pair_windows.specs.CdpWalks.{IsComplete, IsWalked, windows_before}
use Rattle.pair_windows.specs.Counted.{RiseByEpoch}
use Rattle.pair_windows.specs.Fronts.{flush_len, is_flush}
use Rattle.pair_windows.specs.PartitionSpans.{kept_from}
use Rattle.pair_windows.specs.Partitions.{is_kept, is_kept_at, partitions_in}
use Rattle.pair_windows.specs.declared.cdp_walks.CdpWalk.{CdpWalk}
use Rattle.pair_windows.specs.declared.cdp_window.CdpWindow.{CdpWindow}
use Rattle.pair_windows.specs.declared.partition.Partition.{Partition}
use Rattle.private_lru.proofs.laws.FirstPlaces.{position_or_len-at, position_or_len-le}
use Rattle.run_law.specs.Journals.{At}
use Rattle.private_lru.proofs.laws.LongerSpans.{spans-more}
use Rattle.private_lru.specs.Keeping.{span_on}
use Rattle.private_lru.specs.declared.span.Span.{Span}

-- ---- what is kept

-- to the next epoch
kept_from-taken : (script : PairScriptValue) (domain first epoch : ℕ) (s : PairState) (kept : List (Span Partition)) → first ≤ epoch → s ≡ state_at script (epoch + 1)
    → kept ≡ kept_from script domain first (epoch - first) → map (span_on (λ p. is_kept domain p s) epoch) kept ≡ kept_from script domain first (epoch + 1 - first)
kept_from-taken script domain first epoch s kept le state is =
    let at : epoch ≡ first + (epoch - first) = omega (arith, le) in
    let one : epoch - first + 1 ≡ epoch + 1 - first = omega (arith, le) in
    ap (λ (x : PairState). map (span_on (λ p. is_kept domain p x) epoch) kept) state
    ∙ (ap (map (span_on (λ p. is_kept domain p (state_at script (epoch + 1))) epoch)) is
    ∙ (sym (spans-more (λ (p : Partition). p) (is_kept_at script domain) first (partitions_in domain (state_at script first)) (epoch - first) epoch at) ∙ ap (kept_from script domain first) one))

module _ (script : PairScriptValue) (domain : ℕ) (entries : List SliceEntry) where
  -- ---- before the first command

  pub IsWalked-fresh : (w : CdpWalk) → w.domain ≡ domain → w.latest.from ≡ w.next → w.next ≡ flush_len entries → w.windows.items ≡ [] → IsWalked script entries 0 0 domain w
  IsWalked-fresh w own at first none = record {
    own = own;
    order = omega (arith, at);
    within = let le = position_or_len-le (λ (e : SliceEntry). is_flush e.what) entries in omega (arith, first, le);
    next = λ e there. what-flush e.what (position_or_len-at (λ (x : SliceEntry). is_flush x.what) entries e (ap (slice_get entries) (sym first) ∙ there));
    opened = λ lt. absurd (omega (arith, lt, at));
    reached = λ lt less. absurd (omega (arith, lt, at));
    windows = none ∙ (sym (windows_before-first script domain entries) ∙ ap (windows_before script domain entries) (sym (at ∙ first)));
    before = λ p e there low flush. omega arith;
  }

  -- ---- an epoch more

  module _ (epoch floor : ℕ) (w : CdpWalk) (walked : IsWalked script entries epoch floor domain w) where
    -- nothing more is kept
    pub IsWalked-idle : w.latest.last ≤ w.latest.until → IsWalked script entries (epoch + 1) floor domain w
    IsWalked-idle idle = record {
      own = walked.own;
      order = walked.order;
      within = walked.within;
      next = walked.next;
      opened = walked.opened;
      reached = λ lt less. absurd (omega (arith, less, idle));
      windows = walked.windows;
      before = walked.before;
    }

    -- what is kept in the next one
    pub IsWalked-kept : (s : PairState) (kept : Vec (Span Partition) Global) → s ≡ state_at script (epoch + 1) → w.latest.until < w.latest.last
        → kept.items ≡ map (span_on (λ p. is_kept w.domain p s) epoch) w.latest.kept.items
        → IsWalked script entries (epoch + 1) floor domain (record w { latest = record w.latest { until = epoch + 1; kept = kept } })
    IsWalked-kept s kept state less is = record {
      own = walked.own;
      order = walked.order;
      within = walked.within;
      next = walked.next;
      opened = λ lt.
          let o = walked.opened lt in
          let at = walked.reached lt less in
          record {
            flush = o.flush;
            begun = λ e there. let le = o.begun e there in omega (arith, le, at);
            kept = λ e there.
                let le = o.begun e there in
                let was : w.latest.kept.items ≡ kept_from script domain e.epoch (epoch - e.epoch) = o.kept e there ∙ ap (λ n. kept_from script domain e.epoch (n - e.epoch)) at in
                is
                ∙ (ap (λ (k : ℕ). map (span_on (λ p. is_kept k p s) epoch) w.latest.kept.items) walked.own
                ∙ kept_from-taken script domain e.epoch epoch s w.latest.kept.items (omega (arith, le, at)) state was);
            len = o.len;
            last = o.last;
            not_past = omega (arith, less, at);
            ends = o.ends;
          };
      reached = λ lt more. refl;
      windows = walked.windows;
      before = walked.before;
    }

    -- what is kept up to an epoch from which no entry of a window is away
    pub IsComplete-reached : (w.latest.from < w.next → w.latest.last ≤ epoch) → IsComplete w
    IsComplete-reached reached = λ lt.
        let past = (walked.opened lt).not_past in
        let reach = reached lt in
        elim (cases_lt w.latest.until w.latest.last) [
          | inl less ↦ let at = walked.reached lt less in omega (arith, less, at, reach)
          | inr ge ↦ omega (arith, ge, past)
        ]

    -- the last entry of a window
    last-place : w.latest.from < w.next → w.latest.from + w.latest.len < w.next
    last-place lt =
        let o = walked.opened lt in
        let len = o.len in
        let next = o.ends in
        let le = front_len-flush_len (drop (w.latest.from + 1) entries) in
        omega (arith, len, next, le)

    pub last-entry : (d : SliceEntry) → w.latest.from < w.next → At entries (w.latest.from + w.latest.len) (get_or entries (w.latest.from + w.latest.len) d)
    last-entry d lt = let less = last-place lt in let within = walked.within in slice_get-get_or entries (w.latest.from + w.latest.len) d (omega (arith, less, within))

    -- it is of the epoch of the next flush at most
    pub last-next : RiseByEpoch entries → (e : SliceEntry) → At entries w.next e → w.latest.from < w.next → w.latest.last ≤ e.epoch
    last-next rise e at lt =
        let x : SliceEntry = get_or entries (w.latest.from + w.latest.len) e in
        let less = last-place lt in
        let rises = rises-at entries rise (w.latest.from + w.latest.len) w.next x e (last-entry e lt) at (omega (arith, less)) in
        let is = (walked.opened lt).last x (last-entry e lt) in
        omega (arith, rises, is)

    -- ---- a flush

    -- the windows that begin at the latest one are found
    pub IsWalked-closed : (windows : Vec CdpWindow Global) → windows.items ≡ windows_before script domain entries w.next
        → IsWalked script entries epoch floor domain (record w { latest = record w.latest { from = w.next }; windows = windows })
    IsWalked-closed windows is = record {
      own = walked.own;
      order = omega arith;
      within = walked.within;
      next = walked.next;
      opened = λ lt. absurd (omega (arith, lt));
      reached = λ lt less. absurd (omega (arith, lt));
      windows = is;
      before = walked.before;
    }
