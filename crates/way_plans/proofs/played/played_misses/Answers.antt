use Rattle.std.proofs.Common.{◌≡◌, ℕ, ◌+◌, ◌*◌, ◌<◌, ◌∙◌, length, ap, ap₂, subst, arith}
use Rattle.lists.proofs.Sums.{sum_below-suc}
use Rattle.machine.proofs.laws.Slices.{slice_number-lt}
use Rattle.machine.specs.Slices.{slice_number}
use Rattle.machine.specs.declared.parameters.Parameters.{Parameters}
use Rattle.run_law.specs.Journals.{slice_at}
use Rattle.run_law.proofs.laws.RunSizes.{length-slice}
use Rattle.way_plans.specs.Comparisons.{played_in}
use Rattle.way_plans.proofs.played.played_misses.Goals as goal

pub loop-slice-preserved : goal.loop-slice-preserved
loop-slice-preserved c =
    let script = c.args.script.now in
    let journals = c.args.journals.now in
    let m : Parameters = script.machine in
    let groups = c.args.groups.now in
    let slice = c.loop-slice.slice in
    let slices = ap (λ (p : Parameters). p.slices) c.machine-machine.ensures in
    let number = ap₂ (λ (a b : ℕ). a + b) (ap₂ (λ (a b : ℕ). a * b) c.from.ensures (c.from-in-loop-slice.ensures ∙ slices)) c.from-in-loop-slice-2.ensures in
    let read = c.slice.ensures ∙ ap (slice_at journals) number in
    let below : slice < m.slices = subst (λ (n : ℕ). slice < n) slices c.loop-slice-test.true in
    let short = length-slice script journals c.requires.lawful c.requires.run (slice_number m c.args.domain slice) (slice_number-lt m c.args.domain slice c.requires.domain below) in
    let own : ℕ → ℕ = λ k. played_in groups (slice_at journals (slice_number m c.args.domain k)) in
    let more : c.played_in-misses.result ≡ own slice = c.played_in-misses.ensures.misses ∙ ap (played_in groups) read in
    record {
      few = omega (arith, c.played_in-misses.ensures.few, c.loop-slice.invariant.few, ap length read, short);
      is = omega (arith, more, c.loop-slice.invariant.is, sum_below-suc slice own);
    }
