use Rattle.std.proofs.Common.{◌≡◌, true, false, below_more, sym, ap, ◌∙◌, arith}
use Rattle.cache_core.specs.History.{IsLegal}
use Rattle.journal_check.proofs.laws.Told.{is_false, is_true}
use Rattle.machine.specs.Slices.{slice_count}
use Rattle.run_law.specs.Clauses.{SlicesAreLegal}
use Rattle.run_law.specs.Journals.{slice_at}
use Rattle.run_law.specs.Slices.{shape_in}
use Rattle.journal_check.proofs.legal_slices.are_slices_legal.Goals as goal

pub loop-i-preserved : goal.loop-i-preserved
loop-i-preserved c =
    let script = c.args.script.now in
    let j = c.args.j.now in
    below_more (λ k. IsLegal (shape_in script.machine k) (slice_at j k)) c.loop-i.i c.loop-i.invariant (c.in_ok-holds.ensures.0 c.if-not-holds.false)

pub returns-then-not-holds : goal.returns-then-not-holds
returns-then-not-holds c =
    is_false (SlicesAreLegal c.args.script.now c.args.j.now)
    (λ all.
    let shown = c.in_ok-holds.ensures.1 (all c.loop-i.i (omega (arith, c.loop-i-test.true, c.slice_count-i-end.ensures.count, ap slice_count c.machine.ensures))) in
    let wrong : true ≡ false = sym shown ∙ c.if-not-holds.true in
    cc)

pub returns : goal.returns
returns c =
    is_true (SlicesAreLegal c.args.script.now c.args.j.now)
    (λ k less. c.loop-i.invariant k (omega (arith, less, c.loop-i-test.false, c.slice_count-i-end.ensures.count, ap slice_count c.machine.ensures)))
