use Rattle.std.proofs.Common.{◌≡◌, ◌+◌, true, false, List, length, get_or, sym, ap, ◌∙◌, subst, arith}
use Rattle.std.proofs.lemmas.Option.{slice_get-get_or, slice_get_within}
use Rattle.cache_core.specs.declared.entry.SliceEntry.{SliceEntry}
use Rattle.journal_check.proofs.BegunOps.{AreBegun-access, AreBegun-skip, AreBegun-slice}
use Rattle.journal_check.proofs.laws.OpKinds.{is_access_of-false, is_access_of-true}
use Rattle.journal_check.proofs.TableNumbers.{IsTableOf-changed, row-there}
use Rattle.journal_check.proofs.laws.Told.{IsSome-some, no_entry, number_at-op}
use Rattle.journal_check.specs.Begun.{AreBegun}
use Rattle.journal_check.specs.Tables.{IsTableOf, row_of}
use Rattle.run_law.specs.Journals.{At, slice_at}
use Rattle.run_law.specs.Ops.{is_command}
use Rattle.script_ops.specs.Values.{op_at}
use Rattle.journal_check.proofs.beginnings.begin_accesses.Goals as goal
use Rattle.journal_check.proofs.beginnings.begin_accesses.Goals.{then-is_access_at, else-is_access_at}

pub loop-p-preserved : goal.loop-p-preserved
loop-p-preserved c =
    let script = c.args.script.now in
    let j = c.args.j.now in
    let i = c.args.i in
    let p = c.loop-p.p in
    let table = c.loop-p.starts in
    let e = get_or c.slice-entries.result.now p no_entry in
    let at : At (slice_at j i) p e = subst (λ (es : List SliceEntry). At es p e) c.slice-entries.ensures (slice_get-get_or c.slice-entries.result.now p no_entry c.loop-p-test.true) in
    let begun = c.loop-p.invariant.begun in
    elim c.if-is_access_at.branch [
      | then-is_access_at w ↦
          let is = is_access_of-true (op_at script e.thread e.op) (sym w.if-is_access_at.ensures) in
          let n = number_at-op script table e.thread e.op c.loop-p.invariant.table (IsSome-some (op_at script e.thread e.op) is.0 is.1) in
          let here = row-there table e.thread e.op n.0 n.1 in
          let there = slice_get_within (row_of table e.thread) e.op n.0 n.1 in
          let now = w.starts-is ∙ w.set.ensures in
          record {
            table = subst (λ x. IsTableOf script x) (sym now) (IsTableOf-changed table e.thread e.op e.epoch here there script c.loop-p.invariant.table);
            begun = subst (λ x. AreBegun script j (length j.tree) i (p + 1) x) (sym now) (AreBegun-access script j c.requires.all c.requires.made c.requires.legal table i p e at begun is.0 is.1 is.2 here there);
          }
      | else-is_access_at w ↦
          record {
            table = subst (λ x. IsTableOf script x) (sym w.starts-is) c.loop-p.invariant.table;
            begun =
                subst (λ x. AreBegun script j (length j.tree) i (p + 1) x) (sym w.starts-is)
                (AreBegun-skip script j c.requires.all c.requires.made c.requires.legal table i p e at begun (λ d is_d kind. (let command : is_command d ≡ true = is_access_of-false (op_at script e.thread e.op) d (sym w.if-is_access_at.ensures) is_d in let wrong : true ≡ false = sym command ∙ kind in cc)));
          }
    ]

pub returns-clause-begun : goal.returns-clause-begun
returns-clause-begun c =
    let j = c.args.j.now in
    AreBegun-slice c.args.script.now j c.loop-p.starts (length j.tree) c.args.i c.loop-p.p
    (let over = c.loop-p-test.false in omega (arith, over, ap (λ (es : List SliceEntry). length es) c.slice-entries.ensures)) c.loop-p.invariant.begun
