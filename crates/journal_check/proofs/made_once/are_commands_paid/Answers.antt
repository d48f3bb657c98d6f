use Rattle.std.proofs.Common.{◌≡◌, ◌<◌, length, true, false, below_more, sym, ap, ◌∙◌, subst, arith}
use Rattle.journal_check.specs.Payments.{AreAllPaid, AreSlicesPaid}
use Rattle.journal_check.proofs.laws.Told.{is_false, is_true}
use Rattle.machine.specs.Slices.{slice_count}
use Rattle.run_law.specs.Journals.{slice_at}
use Rattle.journal_check.proofs.made_once.are_commands_paid.Goals as goal

pub loop-i-preserved : goal.loop-i-preserved
loop-i-preserved c =
    let m = c.args.traced.now.script.now.machine in
    let j = c.args.traced.now.journals.now in
    let steps = c.args.traced.now.steps.now in
    below_more (λ k. AreAllPaid m k j.tree steps (slice_at j k)) c.loop-i.i c.loop-i.invariant
    (subst (λ i. AreAllPaid m i j.tree steps (slice_at j i)) c.from.ensures (c.in_ok-paid.ensures.0 c.if-not-paid.false))

pub returns-then-not-paid : goal.returns-then-not-paid
returns-then-not-paid c =
    let m = c.args.traced.now.script.now.machine in
    let j = c.args.traced.now.journals.now in
    let steps = c.args.traced.now.steps.now in
    is_false (AreSlicesPaid m j steps)
    (λ all.
    let within : c.loop-i.i < length j.slices = omega (arith, c.loop-i-test.true, c.slice_count-i-end.ensures.count, ap slice_count c.machine.ensures, c.requires.all) in
    let shown = c.in_ok-paid.ensures.1 (subst (λ i. AreAllPaid m i j.tree steps (slice_at j i)) (sym c.from.ensures) (all c.loop-i.i within)) in
    let wrong : true ≡ false = sym shown ∙ c.if-not-paid.true in
    cc)

pub returns : goal.returns
returns c =
    is_true (AreSlicesPaid c.args.traced.now.script.now.machine c.args.traced.now.journals.now c.args.traced.now.steps.now)
    (λ i less. c.loop-i.invariant i (omega (arith, less, c.loop-i-test.false, c.slice_count-i-end.ensures.count, ap slice_count c.machine.ensures, c.requires.all)))
