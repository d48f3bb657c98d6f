use Rattle.std.proofs.Common.{◌≤◌, List, length, ap, subst, arith}
use Rattle.std.proofs.lemmas.List.{take_all}
use Rattle.cache_core.specs.declared.entry.SliceEntry.{SliceEntry}
use Rattle.journal_check.specs.Payments.{ArePaid}
use Rattle.run_law.specs.Journals.{slice_at}
use Rattle.journal_check.proofs.payments.pay_all.Goals as goal

pub returns-clause-paid : goal.returns-clause-paid
returns-clause-paid c shown =
    let script = c.args.traced.now.script.now in
    let j = c.args.traced.now.journals.now in
    let over = c.loop-p-test.false in
    let past : length (slice_at j c.args.i) ≤ c.loop-p.p = omega (arith, over, ap (λ (es : List SliceEntry). length es) c.slice-entries.ensures) in
    subst (λ (es : List SliceEntry). ArePaid script.machine c.args.i j.tree c.args.traced.now.steps.now es c.loop-p.cursors.items) (take_all c.loop-p.p (slice_at j c.args.i) past) c.loop-p.invariant.paid
