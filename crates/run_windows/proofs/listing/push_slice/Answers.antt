use Rattle.std.proofs.Common.{ℕ, ◌+◌, ◌*◌, List, length, get_or, subst, ap, ap₂, ◌∙◌, arith}
use Rattle.std.proofs.lemmas.Option.{slice_get-get_or}
use Rattle.cache_core.specs.declared.entry.SliceEntry.{SliceEntry}
use Rattle.machine.proofs.laws.Slices.{slice_number-lt}
use Rattle.machine.specs.Slices.{slice_number}
use Rattle.machine.specs.declared.parameters.Parameters.{Parameters}
use Rattle.run_law.specs.Journals.{At, slice_at}
use Rattle.run_law.proofs.laws.RunSizes.{length-slice}
use Rattle.run_windows.proofs.WindowSteps.{AreWindowsBefore-slice, no_entry}
use Rattle.run_windows.proofs.listing.push_slice.Goals as goal

pub overflow_cast-opening : goal.overflow_cast-opening
overflow_cast-opening c =
    let script = c.args.timeline.now.run.script.now in
    let m : Parameters = script.machine in
    let slices = ap (λ (p : Parameters). p.slices) c.machine.ensures in
    let number = ap₂ (λ (a b : ℕ). a + b) (ap₂ (λ (a b : ℕ). a * b) c.from.ensures (c.from-2.ensures ∙ slices)) c.from-3.ensures in
    let same = ap length (c.slice-entries.ensures ∙ ap (slice_at c.args.timeline.now.run.journals.now) number) in
    let few = length-slice script c.args.timeline.now.run.journals.now c.requires.timeline.lawful c.requires.timeline.run (slice_number m c.args.domain c.args.slice) (slice_number-lt m c.args.domain c.args.slice c.requires.timeline.domain_exists c.requires.slice) in
    let within = c.loop-from-test.true in
    omega (arith, same, few, within)

pub push_entry-requires-clause-entry : goal.push_entry-requires-clause-entry
push_entry-requires-clause-entry c =
    let slices = ap (λ (p : Parameters). p.slices) c.machine.ensures in
    let number = ap₂ (λ (a b : ℕ). a + b) (ap₂ (λ (a b : ℕ). a * b) c.from.ensures (c.from-2.ensures ∙ slices)) c.from-3.ensures in
    let same = c.slice-entries.ensures ∙ ap (slice_at c.args.timeline.now.run.journals.now) number in
    let read : List SliceEntry = c.slice-entries.result.now in
    subst (λ (l : List SliceEntry). At l c.loop-from.from (get_or read c.loop-from.from no_entry)) same (slice_get-get_or read c.loop-from.from no_entry c.loop-from-test.true)

pub returns : goal.returns
returns c =
    let slices = ap (λ (p : Parameters). p.slices) c.machine.ensures in
    let number = ap₂ (λ (a b : ℕ). a + b) (ap₂ (λ (a b : ℕ). a * b) c.from.ensures (c.from-2.ensures ∙ slices)) c.from-3.ensures in
    let same = ap length (c.slice-entries.ensures ∙ ap (slice_at c.args.timeline.now.run.journals.now) number) in
    let stop = c.loop-from-test.false in
    AreWindowsBefore-slice c.args.timeline.now.run.script.now c.args.timeline.now.run.journals.now c.args.domain c.args.slice c.loop-from.from c.loop-from.windows.items (omega (arith, stop, same)) c.loop-from.invariant
