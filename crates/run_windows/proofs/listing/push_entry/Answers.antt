use Rattle.std.proofs.Common.{List, sym, subst}
use Rattle.std.proofs.lemmas.Option.{get_or_from_slice_get}
use Rattle.cache_core.specs.declared.entry.SliceEntry.{SliceEntry}
use Rattle.machine.proofs.laws.Slices.{slice_number-lt}
use Rattle.machine.specs.Slices.{slice_number}
use Rattle.private_lru.specs.declared.exclusive_span.ExclusiveSpan.{ExclusiveSpan}
use Rattle.run_law.specs.Journals.{slice_at}
use Rattle.run_windows.proofs.Entries.{IsRun-given}
use Rattle.run_windows.specs.Stays.{AreStays}
use Rattle.run_windows.proofs.listing.push_entry.Goals as goal

pub stays_at-requires-clause-known : goal.stays_at-requires-clause-known
stays_at-requires-clause-known c =
    let script = c.args.timeline.now.run.script.now in
    let o = c.args.opening in
    (IsRun-given script c.args.timeline.now.run.journals.now (slice_number script.machine o.domain o.slice) o.from c.args.entry.now c.requires.timeline.lawful c.requires.timeline.run (slice_number-lt script.machine o.domain o.slice c.requires.timeline.domain_exists c.requires.slice) c.requires.entry).known

pub push_opened-requires-clause-stays : goal.push_opened-requires-clause-stays
push_opened-requires-clause-stays c = λ d.
    let script = c.args.timeline.now.run.script.now in
    let j = c.args.timeline.now.run.journals.now in
    let o = c.args.opening in
    let entries = slice_at j (slice_number script.machine o.domain o.slice) in
    subst (λ (x : SliceEntry). AreStays script j o.domain x.epoch c.deref.result.now) (sym (get_or_from_slice_get entries o.from c.args.entry.now d c.requires.entry))
    (subst (λ (l : List ExclusiveSpan). AreStays script j o.domain c.args.entry.now.epoch l) (sym c.deref.ensures.value) c.in_ok-stays.ensures)
