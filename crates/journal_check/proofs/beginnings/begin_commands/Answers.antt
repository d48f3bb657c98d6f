use Rattle.std.proofs.Common.{◌+◌, List, length, refl, sym, subst}
use Rattle.std.proofs.lemmas.Option.{slice_get_read, slice_get_within}
use Rattle.journal_check.proofs.BegunOps.{AreBegun-command}
use Rattle.journal_check.proofs.TableNumbers.{IsTableOf-changed, row-there}
use Rattle.journal_check.proofs.laws.TakenPlaces.{command-legal}
use Rattle.journal_check.proofs.laws.Told.{At-map, IsSome-some, number_at-op}
use Rattle.journal_check.specs.Begun.{AreBegun}
use Rattle.journal_check.specs.Tables.{IsTableOf, row_of}
use Rattle.run_law.specs.Entries.{entry_value}
use Rattle.run_law.specs.Journals.{At}
use Rattle.run_law.specs.TreeHistory.{TreeEntryValue}
use Rattle.script_ops.specs.Values.{op_at}
use Rattle.journal_check.proofs.beginnings.begin_commands.Goals as goal

pub set-requires-clause-thread : goal.set-requires-clause-thread
set-requires-clause-thread c =
    let script = c.args.script.now in
    let j = c.args.j.now in
    let es = c.tree-tree.result.now in
    let e = c.index-tree-k.result in
    let at : At j.tree c.loop-k.k (entry_value e) = subst (λ (t : List TreeEntryValue). At t c.loop-k.k (entry_value e)) c.tree-tree.ensures (At-map entry_value es c.loop-k.k e (slice_get_read es (length es) c.loop-k.k e refl c.loop-k-test.true c.index-tree-k.is)) in
    let it = command-legal script j.tree c.loop-k.k (entry_value e) c.requires.legal at in
    let n = number_at-op script c.loop-k.starts e.thread e.op c.loop-k.invariant.table (IsSome-some (op_at script e.thread e.op) it.0 it.1) in
    row-there c.loop-k.starts e.thread e.op n.0 n.1

pub set-requires-clause-op : goal.set-requires-clause-op
set-requires-clause-op c =
    let script = c.args.script.now in
    let j = c.args.j.now in
    let es = c.tree-tree.result.now in
    let e = c.index-tree-k.result in
    let at : At j.tree c.loop-k.k (entry_value e) = subst (λ (t : List TreeEntryValue). At t c.loop-k.k (entry_value e)) c.tree-tree.ensures (At-map entry_value es c.loop-k.k e (slice_get_read es (length es) c.loop-k.k e refl c.loop-k-test.true c.index-tree-k.is)) in
    let it = command-legal script j.tree c.loop-k.k (entry_value e) c.requires.legal at in
    let n = number_at-op script c.loop-k.starts e.thread e.op c.loop-k.invariant.table (IsSome-some (op_at script e.thread e.op) it.0 it.1) in
    slice_get_within (row_of c.loop-k.starts e.thread) e.op n.0 n.1

pub loop-k-preserved : goal.loop-k-preserved
loop-k-preserved c =
    let script = c.args.script.now in
    let j = c.args.j.now in
    let es = c.tree-tree.result.now in
    let k = c.loop-k.k in
    let table = c.loop-k.starts in
    let e = c.index-tree-k.result in
    let h = entry_value e in
    let at : At j.tree k h = subst (λ (t : List TreeEntryValue). At t k h) c.tree-tree.ensures (At-map entry_value es k e (slice_get_read es (length es) k e refl c.loop-k-test.true c.index-tree-k.is)) in
    let it = command-legal script j.tree k h c.requires.legal at in
    let n = number_at-op script table h.thread h.op c.loop-k.invariant.table (IsSome-some (op_at script h.thread h.op) it.0 it.1) in
    let here = row-there table h.thread h.op n.0 n.1 in
    let there = slice_get_within (row_of table h.thread) h.op n.0 n.1 in
    record {
      table = subst (λ x. IsTableOf script x) (sym c.set.ensures) (IsTableOf-changed table h.thread h.op k here there script c.loop-k.invariant.table);
      begun = subst (λ x. AreBegun script j (k + 1) 0 0 x) (sym c.set.ensures) (AreBegun-command script j table k h c.requires.legal c.requires.once at here there c.loop-k.invariant.begun);
    }
