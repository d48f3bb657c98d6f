use Rattle.std.proofs.Common.{arith}
use Rattle.journal_check.proofs.Starts.{AreInOrderUpTo-suc, IsEndOf-phase, PhaseInOrder-all, StartsInOrder-all}
use Rattle.journal_check.proofs.laws.Told.{is_false, is_true, op_at-number, some-IsSome}
use Rattle.journal_check.specs.Marks.{StartsInOrder}
use Rattle.run_law.proofs.laws.Endings.{op_phase}
use Rattle.script_ops.specs.Values.{op_at}
use Rattle.journal_check.proofs.marks.are_marks_in_order.Goals as goal

pub returns-in-None : goal.returns-in-None
returns-in-None c =
    let script = c.args.script.now in
    let table = c.args.starts.now in
    is_false (StartsInOrder script table) (λ order. c.in-None.ensures (PhaseInOrder-all script table c.loop-phase.phase c.loop-phase.barrier c.loop-phase.invariant.end order c.requires.table))

pub loop-phase-preserved : goal.loop-phase-preserved
loop-phase-preserved c =
    let script = c.args.script.now in
    let table = c.args.starts.now in
    let told = c.in-Some.ensures in
    record {
      order = AreInOrderUpTo-suc script table c.loop-phase.phase c.loop-phase.barrier c.loop-phase.invariant.end told.0 c.loop-phase.invariant.order;
      end = IsEndOf-phase script table c.loop-phase.phase c.loop-phase.barrier c.loop-phase.invariant.end c.in-Some.end told.1;
    }

pub returns : goal.returns
returns c =
    let script = c.args.script.now in
    let table = c.args.starts.now in
    is_true (StartsInOrder script table)
    (StartsInOrder-all script table c.loop-phase.phase
    (λ t o n there.
    let it = some-IsSome (op_at script t o) (op_at-number script table t o n c.requires.table there) in
    let early = op_phase script t o it.0 it.1 in
    omega (arith, early, c.loop-phase-test.false, c.phases-phase-end.ensures.phases))
    c.loop-phase.invariant.order)
