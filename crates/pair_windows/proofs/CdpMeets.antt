-- The flushes of an epoch, as they are met in a domain.
use Rattle.std.proofs.Common.{◌≡◌, ℕ, ◌+◌, ◌-◌, ◌<◌, true, false, List, length, map, drop, get_or, inl, inr, refl, sym, ap, ap₂, ◌∙◌, arith}
use Rattle.std.specs.Prelude.{Vec}
use Rattle.std.specs.declared.alloc.Global.{Global}
use Rattle.std.specs.List.{slice_get}
use Rattle.std.proofs.lemmas.Bool.{cases_lt}
use Rattle.std.proofs.lemmas.List.{length-drop}
use Rattle.std.proofs.lemmas.Option.{slice_get-get_or, slice_get_within}
use Rattle.cache_core.specs.Filled.{empties}
use Rattle.cache_core.specs.declared.entry.SliceEntry.{SliceEntry}
use Rattle.pair_law.specs.Epochs.{state_at}
use Rattle.pair_law.specs.State.{PairState}
use Rattle.pair_text.specs.Values.{PairScriptValue}
use Rattle.pair_windows.proofs.NextFlushes.{due-epoch, due-within, next-flush, next-within, not_due, rises-at}
use Rattle.pair_windows.proofs.NoEntry.{no_entry}
use Rattle.pair_windows.specs.CdpWalks.{IsWalked, is_of, windows_before}
use Rattle.pair_windows.specs.Counted.{RiseByEpoch}
use Rattle.pair_windows.specs.Fronts.{flush_len, front_len}
use Rattle.pair_windows.specs.PartitionSpans.{kept_from}
use Rattle.pair_windows.specs.Partitions.{is_kept_at, partitions_in}
use Rattle.pair_windows.specs.declared.cdp_walks.CdpWalk.{CdpWalk}
use Rattle.pair_windows.specs.declared.partition.Partition.{Partition}
use Rattle.private_lru.proofs.laws.FirstPlaces.{position_or_len-le}
use Rattle.run_law.specs.Journals.{At}
use Rattle.private_lru.proofs.laws.LongerSpans.{spans-none}
use Rattle.private_lru.specs.Keeping.{span_to}
use Rattle.private_lru.specs.declared.span.Span.{Span}

module _ (script : PairScriptValue) (domain : ℕ) (entries : List SliceEntry) (epoch : ℕ) (w : CdpWalk) (walked : IsWalked script entries epoch epoch domain w) (rise : RiseByEpoch entries) where
  -- all flushes of an epoch are met
  pub IsWalked-met : is_of epoch (slice_get entries w.next) ≡ false → IsWalked script entries epoch (epoch + 1) domain w
  IsWalked-met other = record {
    own = walked.own;
    order = walked.order;
    within = walked.within;
    next = walked.next;
    opened = walked.opened;
    reached = walked.reached;
    windows = walked.windows;
    before = λ p e at low flush.
        let within = slice_get_within entries p e at in
        let x : SliceEntry = get_or entries w.next e in
        let there : At entries w.next x = slice_get-get_or entries w.next e (omega (arith, low, within)) in
        let least = walked.before w.next x there (omega arith) (walked.next x there) in
        let rises = rises-at entries rise w.next p x e there at low in
        let differ : x.epoch ≡ epoch → ⊥ = not_due epoch w.next entries x other there in
        elim (cases_lt epoch x.epoch) [
          | inl less ↦ omega (arith, less, rises)
          | inr ge ↦ absurd (differ (omega (arith, ge, least)))
        ];
  }

  -- the next one is open
  pub IsWalked-opened : (s : PairState) (kept : Vec (Span Partition) Global) (len last n : ℕ) → is_of epoch (slice_get entries w.next) ≡ true → w.latest.from ≡ w.next → s ≡ state_at script epoch
      → kept.items ≡ map (span_to epoch) (partitions_in w.domain s) → len ≡ front_len (drop (w.next + 1) entries) → ((e : SliceEntry) → At entries (w.next + len) e → e.epoch ≡ last)
      → n ≡ flush_len (drop (w.next + 1) entries)
      → IsWalked script entries epoch epoch domain (record w { latest = record { from = w.next; len = len; last = last; until = epoch; kept = kept }; next = w.next + 1 + n })
  IsWalked-opened s kept len last n due closed state is len_is last_is n_is =
      let lt : w.next < length entries = due-within epoch w.next entries due in
      let place : w.next + 1 + flush_len (drop (w.next + 1) entries) ≡ w.next + 1 + n = omega (arith, n_is) in
      record {
        own = walked.own;
        order = omega arith;
        within = let most = next-within entries w.next lt in omega (arith, most, n_is);
        next = λ e at. next-flush entries w.next e (ap (slice_get entries) place ∙ at);
        opened = λ less. record {
          flush = walked.next;
          begun = λ e at. let same = due-epoch epoch w.next entries e due at in omega (arith, same);
          kept = λ e at.
              let same : epoch ≡ e.epoch = sym (due-epoch epoch w.next entries e due at) in
              let none : 0 ≡ epoch - e.epoch = omega (arith, same) in
              is
              ∙ (ap₂ (λ (k : ℕ) (x : PairState). map (span_to epoch) (partitions_in k x)) walked.own state
              ∙ (spans-none (λ (p : Partition). p) (is_kept_at script domain) epoch (partitions_in domain (state_at script epoch)) ∙ ap₂ (kept_from script domain) same none));
          len = len_is;
          last = last_is;
          not_past =
              let x : SliceEntry = get_or entries w.next no_entry in
              let at : At entries w.next x = slice_get-get_or entries w.next no_entry lt in
              let same = due-epoch epoch w.next entries x due at in
              let few = position_or_len-le (λ (e : SliceEntry). empties e.what) (drop (w.next + 1) entries) in
              let all = length-drop (w.next + 1) entries in
              let y : SliceEntry = get_or entries (w.next + len) no_entry in
              let there : At entries (w.next + len) y = slice_get-get_or entries (w.next + len) no_entry (omega (arith, len_is, few, all, lt)) in
              let rises = rises-at entries rise w.next (w.next + len) x y at there (omega arith) in
              let top = last_is y there in
              omega (arith, same, rises, top);
          ends = sym place;
        };
        reached = λ less more. refl;
        windows = walked.windows ∙ ap (windows_before script domain entries) closed;
        before = λ p e at low flush. walked.before p e at (omega (arith, low)) flush;
      }
