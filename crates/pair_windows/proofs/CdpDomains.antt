-- All domains of a run with code and data prioritization together.
use Rattle.std.proofs.Common.{◌≡◌, ℕ, ◌+◌, ◌<◌, ◌≤◌, true, List, length, get_or, sym, subst, ap, ◌∙◌, arith}
use Rattle.std.specs.List.{flat_map, range_with_len, slice_get}
use Rattle.std.proofs.lemmas.Option.{slice_get-get_or}
use Rattle.cache_core.specs.declared.entry.SliceEntry.{SliceEntry}
use Rattle.pair_text.specs.Values.{commands_of}
use Rattle.pair_law.proofs.laws.CdpEntries.{IsCdpRun-given}
use Rattle.pair_windows.proofs.CdpSteps.{IsComplete-reached, last-entry, last-next}
use Rattle.pair_windows.proofs.DomainLists.{flat_map-each}
use Rattle.pair_windows.proofs.NextFlushes.{due-epoch, due-within}
use Rattle.pair_windows.proofs.NoEntry.{no_entry}
use Rattle.pair_windows.proofs.laws.RisingEpochs.{RiseByEpoch-run}
use Rattle.pair_windows.specs.CdpJournals.{IsPlayed}
use Rattle.pair_windows.specs.CdpWalks.{HasFoundAll, IsClosable, IsComplete, IsDone, IsOpen, IsWalkedIn, entries_of_domain, is_of, journals_of, windows_before}
use Rattle.pair_windows.specs.CdpWindows.{cdp_windows, windows_in}
use Rattle.pair_windows.specs.Counted.{RiseByEpoch}
use Rattle.pair_windows.specs.DomainWalks.{Each}
use Rattle.pair_windows.specs.declared.cdp_run.CdpRun.{CdpRun}
use Rattle.pair_windows.specs.declared.cdp_walks.CdpWalk.{CdpWalk}
use Rattle.run_law.specs.Journals.{At}

module _ (run : CdpRun) (epoch floor domain : ℕ) (w : CdpWalk) (walked : IsWalkedIn run epoch floor domain w) where
  abbrev entries : List SliceEntry
  entries = entries_of_domain run domain

  -- what is complete can be closed
  pub IsClosable-walked : domain < run.script.now.machines.machine.domains → IsComplete w → IsClosable run w
  IsClosable-walked exists complete =
      let own = walked.own in
      record {
        exists = omega (arith, own, exists);
        order = walked.order;
        within = let all = ap (λ d. length (entries_of_domain run d)) own in let le = walked.within in omega (arith, all, le);
        opened = λ lt. subst (λ d. IsOpen run.script.now (entries_of_domain run d) d w.next w.latest) (sym own) (walked.opened lt);
        complete = complete;
      }

  -- what is done is complete
  pub IsComplete-done : IsDone run domain w → IsComplete w
  IsComplete-done done = λ lt. let past = (walked.opened lt).not_past in let all = done.complete lt in omega (arith, past, all)

  module _ (played : IsPlayed run.script.now (journals_of run)) (exists : domain < run.script.now.machines.machine.domains) where
    -- an epoch of an entry is that of a command
    epoch-known : (p : ℕ) (e : SliceEntry) → At entries p e → e.epoch ≤ length (commands_of run.script.now)
    epoch-known p e at = (IsCdpRun-given run.script.now domain (journals_of run) p e played.run exists at).known

    rise : RiseByEpoch entries
    rise = RiseByEpoch-run run.script.now domain (journals_of run) played.run exists

    -- where the next flush is of the epoch, the latest one can be closed
    pub IsClosable-due : is_of epoch (slice_get entries w.next) ≡ true → IsClosable run w
    IsClosable-due due =
        let e : SliceEntry = get_or entries w.next no_entry in
        let at : At entries w.next e = slice_get-get_or entries w.next no_entry (due-within epoch w.next entries due) in
        let same = due-epoch epoch w.next entries e due at in
        IsClosable-walked exists (IsComplete-reached run.script.now domain entries epoch floor w walked (λ lt. let le = last-next run.script.now domain entries epoch floor w walked rise e at lt in omega (arith, le, same)))

    -- where a flush is not met, there are more commands
    pub more-met : epoch < floor → w.next < length entries → epoch < length (commands_of run.script.now)
    more-met later lt =
        let e : SliceEntry = get_or entries w.next no_entry in
        let at : At entries w.next e = slice_get-get_or entries w.next no_entry lt in
        let least = walked.before w.next e at (omega arith) (walked.next e at) in
        let most = epoch-known w.next e at in
        omega (arith, least, most, later)

    -- and where what is kept is not complete
    pub more-kept : w.latest.from < w.next → w.latest.until < w.latest.last → epoch < length (commands_of run.script.now)
    more-kept lt less =
        let e : SliceEntry = get_or entries (w.latest.from + w.latest.len) no_entry in
        let at : At entries (w.latest.from + w.latest.len) e = last-entry run.script.now domain entries epoch floor w walked no_entry lt in
        let is = (walked.opened lt).last e at in
        let most = epoch-known (w.latest.from + w.latest.len) e at in
        let here = walked.reached lt less in
        omega (arith, is, most, here, less)

-- all windows of a domain that is done
pub HasFoundAll-closed : (run : CdpRun) (epoch floor domain : ℕ) (w : CdpWalk) → IsWalkedIn run epoch floor domain w → length (entries_of_domain run domain) ≤ w.latest.from → HasFoundAll run domain w
HasFoundAll-closed run epoch floor domain w walked all =
    let order = walked.order in
    let within = walked.within in
    let end : w.latest.from ≡ length (entries_of_domain run domain) = omega (arith, order, within, all) in
    walked.windows ∙ ap (windows_before run.script.now domain (entries_of_domain run domain)) end

-- the windows of all domains
pub cdp_windows-found : (run : CdpRun) (walks : List CdpWalk) → length walks ≡ run.script.now.machines.machine.domains → Each (HasFoundAll run) walks
    → flat_map (λ (w : CdpWalk). w.windows.items) walks ≡ cdp_windows run.script.now (journals_of run)
cdp_windows-found run walks count found =
    flat_map-each (λ (w : CdpWalk). w.windows.items) (λ domain. windows_in run.script.now domain (entries_of_domain run domain)) 0 walks
    (λ i d lt. let at : 0 + i ≡ i = omega arith in found i d lt ∙ ap (λ domain. windows_in run.script.now domain (entries_of_domain run domain)) (sym at))
    ∙ ap (λ (n : ℕ). flat_map (λ domain. windows_in run.script.now domain (entries_of_domain run domain)) (range_with_len 0 n)) count
