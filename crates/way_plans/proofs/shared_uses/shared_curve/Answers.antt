use Rattle.std.proofs.Common.{◌≡◌, ℕ, ◌+◌, ◌*◌, ◌<◌, ◌∙◌, List, ◌++◌, length, ap, ap₂, subst, arith}
use Rattle.std.specs.List.{flat_map, range_with_len}
use Rattle.machine.proofs.laws.Slices.{slice_number-lt}
use Rattle.machine.specs.Slices.{slice_number}
use Rattle.machine.specs.declared.parameters.Parameters.{Parameters}
use Rattle.run_law.specs.Journals.{slice_at}
use Rattle.run_law.proofs.laws.RunSizes.{length-slice}
use Rattle.private_lru.specs.declared.item.Item.{Item}
use Rattle.way_curve.specs.IsCurve.{IsItemCurve}
use Rattle.way_plans.specs.Comparisons.{shared_in}
use Rattle.way_plans.proofs.Lines.{flat_map-next}
use Rattle.way_plans.proofs.shared_uses.shared_curve.Goals as goal

pub loop-slice-preserved : goal.loop-slice-preserved
loop-slice-preserved c =
    let script = c.args.script.now in
    let journals = c.args.journals.now in
    let m : Parameters = script.machine in
    let groups = c.args.groups.now in
    let slice = c.loop-slice.slice in
    let slices = ap (λ (p : Parameters). p.slices) c.machine-machine.ensures in
    let number = ap₂ (λ (a b : ℕ). a + b) (ap₂ (λ (a b : ℕ). a * b) c.from.ensures (c.from-in-loop-slice.ensures ∙ slices)) c.from-in-loop-slice-2.ensures in
    let read = c.slice.ensures ∙ ap (slice_at journals) number in
    let own : ℕ → List Item = λ k. shared_in groups (slice_at journals (slice_number m c.args.domain k)) in
    let below : slice < m.slices = subst (λ (n : ℕ). slice < n) slices c.loop-slice-test.true in
    let short = length-slice script journals c.requires.lawful c.requires.run (slice_number m c.args.domain slice) (slice_number-lt m c.args.domain slice c.requires.domain below) in
    let before : List Item = flat_map own (range_with_len 0 slice) in
    let next : before ++ own slice ≡ flat_map own (range_with_len 0 (slice + 1)) = flat_map-next own slice in
    let added = c.note_shared.ensures.items before c.loop-slice.invariant.is in
    record {
      sets = c.note_shared.ensures.sets ∙ c.loop-slice.invariant.sets;
      few = omega (arith, c.note_shared.ensures.few, c.loop-slice.invariant.few, ap length read, short);
      is = subst (λ (l : List Item). IsItemCurve c.note_shared.new.curve l) (ap (λ (l : List _). before ++ shared_in groups l) read ∙ next) added;
    }
