use Rattle.std.proofs.Common.{rules}
use Rattle.machine.specs.Maps.{parameters_of}
use Rattle.journal_text.proofs.EntryParts.{entry_line-read, no_kind, no_numbers, no_op, no_thread, no_what}
use Rattle.journal_text.proofs.entries.entry_of_line.Goals as goal

pub returns-in_err-kind : goal.returns-in_err-kind
returns-in_err-kind c = rw c.from_residual.ensures (no_kind (parameters_of c.args.machine.now) c.args.slice c.first_word.result.0.now c.first_word.result.1.now c.args.line.now c.first_word.ensures c.in_err-kind.ensures)

pub returns-in_err-thread : goal.returns-in_err-thread
returns-in_err-thread c = rw c.from_residual-in_err-thread.ensures (no_numbers (parameters_of c.args.machine.now) c.args.slice c.first_word.result.0.now c.first_word.result.1.now c.args.line.now c.first_word.ensures c.in_err-thread.ensures)

pub returns-in_err-what : goal.returns-in_err-what
returns-in_err-what c =
    let a = c.in_ok-thread in
    rw c.from_residual-in_err-what.ensures (no_what (parameters_of c.args.machine.now) c.args.slice c.first_word.result.0.now c.first_word.result.1.now c.args.line.now c.first_word.ensures a.thread a.op a.epoch a.rest.now a.ensures c.in_ok-kind.kind c.in_ok-kind.ensures c.in_err-what.ensures)

pub returns-in_err-thread-2 : goal.returns-in_err-thread-2
returns-in_err-thread-2 c =
    let a = c.in_ok-thread in
    rw c.from_residual-in_err-thread-2.ensures (no_thread (parameters_of c.args.machine.now) c.args.slice c.first_word.result.0.now c.first_word.result.1.now c.args.line.now c.first_word.ensures a.thread a.op a.epoch a.rest.now a.ensures c.in_err-thread-2.ensures)

pub returns-in_err-op : goal.returns-in_err-op
returns-in_err-op c =
    let a = c.in_ok-thread in
    rw c.from_residual-in_err-op.ensures (no_op (parameters_of c.args.machine.now) c.args.slice c.first_word.result.0.now c.first_word.result.1.now c.args.line.now c.first_word.ensures a.thread a.op a.epoch a.rest.now a.ensures c.in_err-op.ensures)

pub returns : goal.returns
returns c =
    let a = c.in_ok-thread in (
      record { thread = search rules; op = search rules; epoch = search rules; what = c.in_ok-what.ensures.writable },
      entry_line-read (parameters_of c.args.machine.now) c.args.slice c.first_word.result.0.now c.first_word.result.1.now c.args.line.now c.first_word.ensures a.thread a.op a.epoch a.rest.now a.ensures c.in_ok-kind.kind c.in_ok-what.what c.in_ok-thread-2.thread c.in_ok-op.op c.in_ok-kind.ensures c.in_ok-what.ensures c.in_ok-thread-2.ensures c.in_ok-op.ensures,
    )
