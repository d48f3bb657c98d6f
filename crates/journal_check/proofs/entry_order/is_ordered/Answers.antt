use Rattle.std.proofs.Common.{◌≡◌, ◌+◌, get_or, set, sym, ◌∙◌, subst, arith}
use Rattle.std.specs.Prelude.{slice_index}
use Rattle.std.proofs.lemmas.List.{length-set}
use Rattle.std.proofs.lemmas.Option.{slice_get-get_or, slice_get_within}
use Rattle.journal_check.proofs.Ordered.{AreOrdered-passed, HasPassed-suc, early_op-not_ordered, early_phase-not_ordered}
use Rattle.journal_check.proofs.laws.Told.{is_false, is_true, no_entry, thread-op}
use Rattle.journal_check.specs.Orders.{AreOrdered, HasPassed}
use Rattle.run_law.specs.Journals.{At}
use Rattle.run_law.specs.Ops.{phase_in}
use Rattle.script_ops.specs.Values.{threads_of}
use Rattle.journal_check.proofs.entry_order.is_ordered.Goals as goal

pub bounds-phases-thread : goal.bounds-phases-thread
bounds-phases-thread c =
    let entries = c.args.entries.now in
    let n = c.loop-entry.entry-index in
    let e = get_or entries n no_entry in
    let there = thread-op (threads_of c.args.script.now) e.thread e.op (c.requires.of_ops n e (slice_get-get_or entries n no_entry c.loop-entry-test.true)) in
    omega (arith, there, c.requires.phases.all)

pub returns-then-phases-thread : goal.returns-then-phases-thread
returns-then-phases-thread c =
    let script = c.args.script.now in
    let entries = c.args.entries.now in
    let n = c.loop-entry.entry-index in
    let e = get_or entries n no_entry in
    let at : At entries n e = slice_get-get_or entries n no_entry c.loop-entry-test.true in
    let there = thread-op (threads_of script) e.thread e.op (c.requires.of_ops n e at) in
    let is : slice_index c.args.phases.now e.thread ≡ phase_in script.phases e.thread = c.requires.phases.each e.thread there in
    is_false (AreOrdered script entries)
    (early_phase-not_ordered script entries n c.loop-entry.phase c.loop-entry.last e at c.loop-entry.invariant.passed (let early = c.if-phases-thread.true in omega (arith, early, is)))

pub bounds-last-thread : goal.bounds-last-thread
bounds-last-thread c =
    let entries = c.args.entries.now in
    let n = c.loop-entry.entry-index in
    let e = get_or entries n no_entry in
    let there = thread-op (threads_of c.args.script.now) e.thread e.op (c.requires.of_ops n e (slice_get-get_or entries n no_entry c.loop-entry-test.true)) in
    omega (arith, there, c.loop-entry.invariant.room)

pub returns-then-entry-last : goal.returns-then-entry-last
returns-then-entry-last c =
    let script = c.args.script.now in
    let entries = c.args.entries.now in
    let n = c.loop-entry.entry-index in
    let e = get_or entries n no_entry in
    let at : At entries n e = slice_get-get_or entries n no_entry c.loop-entry-test.true in
    is_false (AreOrdered script entries) (early_op-not_ordered script entries n c.loop-entry.phase c.loop-entry.last e at c.loop-entry.invariant.passed c.if-entry-last.true)

pub bounds-phases-thread-in-loop-entry : goal.bounds-phases-thread-in-loop-entry
bounds-phases-thread-in-loop-entry c =
    let entries = c.args.entries.now in
    let n = c.loop-entry.entry-index in
    let e = get_or entries n no_entry in
    let there = thread-op (threads_of c.args.script.now) e.thread e.op (c.requires.of_ops n e (slice_get-get_or entries n no_entry c.loop-entry-test.true)) in
    omega (arith, there, c.requires.phases.all)

pub bounds-last-thread-in-loop-entry : goal.bounds-last-thread-in-loop-entry
bounds-last-thread-in-loop-entry c =
    let entries = c.args.entries.now in
    let n = c.loop-entry.entry-index in
    let e = get_or entries n no_entry in
    let there = thread-op (threads_of c.args.script.now) e.thread e.op (c.requires.of_ops n e (slice_get-get_or entries n no_entry c.loop-entry-test.true)) in
    omega (arith, there, c.loop-entry.invariant.room)

pub loop-entry-preserved : goal.loop-entry-preserved
loop-entry-preserved c =
    let script = c.args.script.now in
    let entries = c.args.entries.now in
    let n = c.loop-entry.entry-index in
    let last = c.loop-entry.last in
    let e = get_or entries n no_entry in
    let at : At entries n e = slice_get-get_or entries n no_entry c.loop-entry-test.true in
    let there = thread-op (threads_of script) e.thread e.op (c.requires.of_ops n e at) in
    let is : slice_index c.args.phases.now e.thread ≡ phase_in script.phases e.thread = c.requires.phases.each e.thread there in
    let first = c.if-phases-thread.false in
    let second = c.if-entry-last.false in
    record {
      room = length-set last e.thread e.op ∙ c.loop-entry.invariant.room;
      passed =
          subst (λ p. HasPassed script entries (n + 1) p (set last e.thread e.op)) (sym is)
          (HasPassed-suc script entries n c.loop-entry.phase last e at c.loop-entry.invariant.passed (omega (arith, first, is)) second (omega (arith, there, c.loop-entry.invariant.room)));
    }

pub returns : goal.returns
returns c =
    let script = c.args.script.now in
    let entries = c.args.entries.now in
    is_true (AreOrdered script entries)
    (AreOrdered-passed script entries c.loop-entry.entry-index c.loop-entry.phase c.loop-entry.last (λ p e at. (let within = slice_get_within entries p e at in let over = c.loop-entry-test.false in omega (arith, within, over))) c.loop-entry.invariant.passed)
