use Rattle.std.proofs.Common.{◌+◌, length, map, refl, sym, subst, arith}
use Rattle.std.proofs.lemmas.List.{length-map}
use Rattle.std.proofs.lemmas.Option.{slice_get_read, slice_get_within}
use Rattle.journal_check.proofs.laws.FewCommands.{length-commands}
use Rattle.journal_check.proofs.TableNumbers.{IsTableOf-changed, row-there}
use Rattle.journal_check.proofs.laws.TakenPlaces.{AreOwnPlaces-places, ArePlaces-all, ArePlacesUpTo-suc, command-legal}
use Rattle.journal_check.proofs.laws.Told.{At-map, IsSome-some, number_at-op}
use Rattle.journal_check.specs.Places.{ArePlacesUpTo}
use Rattle.journal_check.specs.Tables.{IsTableOf, row_of}
use Rattle.run_law.specs.Entries.{entry_value}
use Rattle.run_law.specs.Journals.{At}
use Rattle.script_ops.specs.Values.{op_at}
use Rattle.journal_check.proofs.places.places_of.Goals as goal

pub set-requires-clause-thread : goal.set-requires-clause-thread
set-requires-clause-thread c =
    let script = c.args.script.now in
    let es = c.args.tree.now in
    let e = c.index-tree-k.result in
    let at : At (map entry_value es) c.loop-k.k (entry_value e) = At-map entry_value es c.loop-k.k e (slice_get_read es (length es) c.loop-k.k e refl c.loop-k-test.true c.index-tree-k.is) in
    let it = command-legal script (map entry_value es) c.loop-k.k (entry_value e) c.requires.legal at in
    let n = number_at-op script c.loop-k.places e.thread e.op c.loop-k.invariant.table (IsSome-some (op_at script e.thread e.op) it.0 it.1) in
    row-there c.loop-k.places e.thread e.op n.0 n.1

pub set-requires-clause-op : goal.set-requires-clause-op
set-requires-clause-op c =
    let script = c.args.script.now in
    let es = c.args.tree.now in
    let e = c.index-tree-k.result in
    let at : At (map entry_value es) c.loop-k.k (entry_value e) = At-map entry_value es c.loop-k.k e (slice_get_read es (length es) c.loop-k.k e refl c.loop-k-test.true c.index-tree-k.is) in
    let it = command-legal script (map entry_value es) c.loop-k.k (entry_value e) c.requires.legal at in
    let n = number_at-op script c.loop-k.places e.thread e.op c.loop-k.invariant.table (IsSome-some (op_at script e.thread e.op) it.0 it.1) in
    slice_get_within (row_of c.loop-k.places e.thread) e.op n.0 n.1

pub loop-k-preserved : goal.loop-k-preserved
loop-k-preserved c =
    let script = c.args.script.now in
    let es = c.args.tree.now in
    let k = c.loop-k.k in
    let table = c.loop-k.places in
    let e = c.index-tree-k.result in
    let h = entry_value e in
    let at : At (map entry_value es) k h = At-map entry_value es k e (slice_get_read es (length es) k e refl c.loop-k-test.true c.index-tree-k.is) in
    let it = command-legal script (map entry_value es) k h c.requires.legal at in
    let n = number_at-op script table h.thread h.op c.loop-k.invariant.table (IsSome-some (op_at script h.thread h.op) it.0 it.1) in
    let here = row-there table h.thread h.op n.0 n.1 in
    let there = slice_get_within (row_of table h.thread) h.op n.0 n.1 in
    record {
      table = subst (λ x. IsTableOf script x) (sym c.set.ensures) (IsTableOf-changed table h.thread h.op (k + 1) here there script c.loop-k.invariant.table);
      places = subst (λ x. ArePlacesUpTo x (map entry_value es) (k + 1)) (sym c.set.ensures) (ArePlacesUpTo-suc script table (map entry_value es) k h c.requires.legal c.requires.once at here there c.loop-k.invariant.places);
    }

pub returns-clause-places : goal.returns-clause-places
returns-clause-places c =
    ArePlaces-all c.args.script.now c.loop-k.places (map entry_value c.args.tree.now) c.loop-k.k c.requires.legal (let over = c.loop-k-test.false in omega (arith, over, length-map c.args.tree.now entry_value)) c.loop-k.invariant.places

pub returns-clause-own : goal.returns-clause-own
returns-clause-own c =
    let script = c.args.script.now in
    let tree = map entry_value c.args.tree.now in
    AreOwnPlaces-places script c.loop-k.places tree (length-commands script tree c.requires.legal c.requires.once c.threads-threads.ensures.lawful)
    (ArePlaces-all script c.loop-k.places tree c.loop-k.k c.requires.legal (let over = c.loop-k-test.false in omega (arith, over, length-map c.args.tree.now entry_value)) c.loop-k.invariant.places)
