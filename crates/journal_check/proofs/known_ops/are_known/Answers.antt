use Rattle.std.proofs.Common.{below_more, subst}
use Rattle.journal_check.specs.Orders.{AreOfOps}
use Rattle.run_law.specs.Journals.{slice_at}
use Rattle.journal_check.proofs.known_ops.are_known.Goals as goal

pub loop-i-preserved : goal.loop-i-preserved
loop-i-preserved c =
    let script = c.args.script.now in
    let j = c.args.j.now in
    below_more (λ k. AreOfOps script (slice_at j k)) c.loop-i.i c.loop-i.invariant
    (subst (λ i. AreOfOps script (slice_at j i)) c.from.ensures (c.are_of_ops.ensures.0 c.if-not-are_of_ops.false))
