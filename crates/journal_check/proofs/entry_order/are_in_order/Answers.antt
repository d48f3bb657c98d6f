use Rattle.std.proofs.Common.{inl, inr, ap, subst, below_more, arith}
use Rattle.std.proofs.lemmas.Bool.{cases_lt}
use Rattle.journal_check.proofs.laws.Told.{is_true, slice_at-past}
use Rattle.journal_check.specs.Orders.{AreOrdered}
use Rattle.machine.specs.Slices.{slice_count}
use Rattle.run_law.specs.Growth.{EntriesInOrder}
use Rattle.run_law.specs.Journals.{slice_at}
use Rattle.journal_check.proofs.entry_order.are_in_order.Goals as goal

pub loop-i-preserved : goal.loop-i-preserved
loop-i-preserved c =
    let script = c.args.script.now in
    let j = c.args.j.now in
    below_more (λ k. AreOrdered script (slice_at j k)) c.loop-i.i c.loop-i.invariant
    (let here : AreOrdered script c.slice.result.now = c.is_ordered.ensures.0 c.if-not-is_ordered.false in
    subst (λ i. AreOrdered script (slice_at j i)) c.from.ensures (subst (λ es. AreOrdered script es) c.slice.ensures here))

pub returns : goal.returns
returns c =
    let script = c.args.script.now in
    let j = c.args.j.now in
    is_true (EntriesInOrder script j)
    (λ i p q e later here there before. elim (cases_lt i c.loop-i.i) [
      | inl passed ↦ c.loop-i.invariant i passed p q e later here there before
      | inr past ↦ absurd (slice_at-past j i p e (omega (arith, past, c.loop-i-test.false, c.slice_count-i-end.ensures.count, c.requires.all, ap slice_count c.machine.ensures)) here)
    ])
