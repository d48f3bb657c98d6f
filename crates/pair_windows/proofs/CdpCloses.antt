-- The windows that begin at the latest flush that was met in a domain.
use Rattle.std.proofs.Common.{◌≡◌, ℕ, ◌+◌, ◌-◌, ◌<◌, ◌≤◌, List, ◌++◌, length, map, filter, take, drop, take_all, get_or, refl, sym, subst, ap, ap₂, ◌∙◌, arith}
use Rattle.std.specs.List.{All}
use Rattle.std.proofs.lemmas.List.{length-drop}
use Rattle.std.proofs.lemmas.Option.{slice_get-get_or}
use Rattle.cache_core.specs.declared.entry.SliceEntry.{SliceEntry}
use Rattle.cache_core.specs.declared.entry.What.TheVariants.{Flush}
use Rattle.pair_text.specs.Values.{PairScriptValue}
use Rattle.pair_law.specs.CdpRuns.{CdpJournalsValue}
use Rattle.pair_text.specs.declared.limits.TheConstants.{MOST_COMMANDS}
use Rattle.pair_windows.proofs.EarlierWindows.{windows_before-next}
use Rattle.pair_windows.proofs.FlushWindows.{bound, bound-known, opening-bound, windows_from-counted}
use Rattle.pair_windows.proofs.NextFlushes.{front_len-flush_len}
use Rattle.pair_windows.proofs.NoEntry.{no_entry}
use Rattle.pair_windows.proofs.RisingStays.{RiseByGroup-kept, gid-kept}
use Rattle.pair_windows.specs.CdpJournals.{IsPlayed}
use Rattle.pair_windows.specs.CdpWalks.{IsClosable, IsWalkedIn, entries_of_domain, journals_of, windows_before}
use Rattle.pair_windows.specs.CdpWindows.{is_used, windows_from}
use Rattle.pair_windows.specs.Counted.{counted_windows}
use Rattle.pair_windows.specs.Fronts.{front_of}
use Rattle.pair_windows.specs.PartitionSpans.{kept_from, stay_of}
use Rattle.pair_windows.specs.declared.cdp_run.CdpRun.{CdpRun}
use Rattle.pair_windows.specs.declared.cdp_walks.CdpWalk.{CdpWalk}
use Rattle.pair_windows.specs.declared.cdp_window.CdpWindow.{CdpWindow}
use Rattle.pair_windows.specs.declared.partition.Partition.{Partition}
use Rattle.private_lru.specs.Ends.{RiseByGroup}
use Rattle.private_lru.specs.Tallies.{AreCounted}
use Rattle.private_lru.specs.declared.counts.WindowCounts.{WindowCounts}
use Rattle.run_law.specs.Journals.{At}
use Rattle.private_lru.specs.declared.span.Span.{Span}

-- what stands after a place in entries, as the code reads them
pub rest-read : (read entries : List SliceEntry) (a : ℕ) → read ≡ entries → take (length read - a) (drop a read) ≡ drop a entries
rest-read read entries a same = take_all (length read - a) (drop a read) (omega (arith, length-drop a read)) ∙ ap (drop a) same

module _ (run : CdpRun) (w : CdpWalk) (played : IsPlayed run.script.now (journals_of run)) (can : IsClosable run w) (lt : w.latest.from < w.next) where
  abbrev script : PairScriptValue
  script = run.script.now

  abbrev j : CdpJournalsValue
  j = journals_of run

  abbrev entries : List SliceEntry
  entries = entries_of_domain run w.domain

  abbrev from : ℕ
  from = w.latest.from

  -- where the entries of its windows end
  pub len-within : from + 1 + w.latest.len ≤ length entries
  len-within =
      let o = can.opened lt in
      let len = o.len in
      let next = o.ends in
      let le = front_len-flush_len (drop (from + 1) entries) in
      let all = can.within in
      omega (arith, len, next, le, all)

  abbrev opening : SliceEntry
  opening = get_or entries from no_entry

  opens : At entries from opening
  opens = let all = len-within in slice_get-get_or entries from no_entry (omega (arith, all))

  flush : opening.what ≡ Flush
  flush = (can.opened lt).flush opening opens

  abbrev last : ℕ
  last = bound script j w.domain from opening played can.exists opens flush

  last-is : last ≡ w.latest.last
  last-is =
      let o = can.opened lt in
      let all = len-within in
      ap (λ n. (get_or entries (from + n) opening).epoch) (sym o.len) ∙ o.last (get_or entries (from + w.latest.len) opening) (slice_get-get_or entries (from + w.latest.len) opening (omega (arith, all)))

  kept-is : w.latest.kept.items ≡ kept_from script w.domain opening.epoch (last - opening.epoch)
  kept-is = (can.opened lt).kept opening opens ∙ ap (λ n. kept_from script w.domain opening.epoch (n - opening.epoch)) (can.complete lt ∙ sym last-is)

  -- what is kept can be counted
  pub few_groups-latest : All (λ (k : Span Partition). k.held.gid.0 < 2147483648) w.latest.kept.items
  few_groups-latest =
      let le = opening-bound script j w.domain from opening played can.exists opens flush in
      let known = bound-known script j w.domain from opening played can.exists opens flush in
      let few = played.playable.few in
      let most : MOST_COMMANDS ≡ 20000 = refl in
      subst (All (λ (k : Span Partition). k.held.gid.0 < 2147483648)) (sym kept-is) (gid-kept script w.domain opening.epoch (last - opening.epoch) 2147483648 (omega (arith, le, known, few, most)))

  pub rising-latest : RiseByGroup (map stay_of w.latest.kept.items)
  rising-latest = subst (λ (ks : List (Span Partition)). RiseByGroup (map stay_of ks)) (sym kept-is) (RiseByGroup-kept script w.domain opening.epoch (last - opening.epoch))

  -- all windows up to the next flush
  pub windows-closed : (front : List SliceEntry) (counts : List WindowCounts) (windows : List CdpWindow) → front ≡ front_of (drop (from + 1) entries)
      → AreCounted script.machines.machine.sets Flush front (map stay_of w.latest.kept.items) counts
      → windows ≡ w.windows.items ++ filter is_used (counted_windows w.domain from w.latest.kept.items counts)
      → (epoch floor : ℕ) → IsWalkedIn run epoch floor w.domain w → windows ≡ windows_before script w.domain entries w.next
  windows-closed front counts windows seen counted is epoch floor walked =
      let parts : List (Span Partition) = kept_from script w.domain opening.epoch (last - opening.epoch) in
      let sets : ℕ = script.machines.machine.sets in
      let are : AreCounted sets Flush (front_of (drop (from + 1) entries)) (map stay_of parts) counts =
      subst (λ (l : List SliceEntry). AreCounted sets Flush l (map stay_of parts) counts) seen
      (subst (λ (ks : List (Span Partition)). AreCounted sets Flush front (map stay_of ks) counts) kept-is counted) in
      let found : windows_from script w.domain entries from opening.epoch ≡ filter is_used (counted_windows w.domain from parts counts) = windows_from-counted script j w.domain from opening played can.exists opens flush counts are in
      is
      ∙ (ap (λ (ks : List (Span Partition)). w.windows.items ++ filter is_used (counted_windows w.domain from ks counts)) kept-is
      ∙ (ap₂ (λ (a b : List CdpWindow). a ++ b) walked.windows (sym found) ∙ sym (windows_before-next script w.domain entries w.next w.latest opening (can.opened lt) opens)))
