use Rattle.std.proofs.Common.{◌+◌, List, refl, sym, ap, ◌∙◌}
use Rattle.std.proofs.lemmas.Option.{get_or_from_slice_get}
use Rattle.cache_core.specs.declared.entry.SliceEntry.{SliceEntry}
use Rattle.pair_windows.proofs.CdpCloses.{rest-read}
use Rattle.pair_windows.proofs.CdpMeets.{IsWalked-opened}
use Rattle.pair_windows.specs.Fronts.{flush_len, front_len}
use Rattle.pair_windows.proofs.cdp_walks.open_next.Goals as goal

pub returns-clause-walked : goal.returns-clause-walked
returns-clause-walked c = λ script domain state rise due closed walked.
    let entries : List SliceEntry = c.args.entries.now in
    let w = c.args.walk.now in
    let rest = rest-read entries entries (w.next + 1) refl in
    IsWalked-opened script domain entries c.args.epoch w walked rise c.args.tree.now.state c.in_ok-partitions.field-0 c.front_len-len.result _ c.flush_len.result due closed state c.in_ok-partitions.ensures
    (c.front_len-len.ensures.len ∙ ap front_len rest) (λ e at. sym (ap (λ (x : SliceEntry). x.epoch) (get_or_from_slice_get entries (w.next + c.front_len-len.result) e _ at))) (c.flush_len.ensures.len ∙ ap flush_len rest)
