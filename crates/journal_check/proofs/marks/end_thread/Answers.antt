use Rattle.std.proofs.Common.{◌≡◌, ◌+◌, ◌<◌, length, get_or, sym, subst, arith}
use Rattle.std.proofs.lemmas.Option.{slice_get-get_or, slice_get_within}
use Rattle.journal_check.proofs.ThreadOrder.{IsThreadEnd-suc, IsThreadInOrder-all, IsThreadInOrder-suc}
use Rattle.journal_check.specs.Marks.{IsThreadEnd}
use Rattle.run_law.specs.Journals.{At}
use Rattle.script_ops.specs.declared.op.Op.TheVariants.{Tick}
use Rattle.journal_check.proofs.marks.end_thread.Goals as goal

pub loop-i-preserved : goal.loop-i-preserved
loop-i-preserved c =
    let ops = c.args.ops.now in
    let starts = c.args.starts.now in
    let i = c.loop-i.i in
    let start = get_or starts i 0 in
    let within : i < length ops = omega (arith, c.loop-i-test.true, c.len-i-end.ensures) in
    let op = get_or ops i Tick in
    let is : At ops i op = slice_get-get_or ops i Tick within in
    let at : At starts i start = slice_get-get_or starts i 0 (omega (arith, within, c.requires.table)) in
    let later = c.if-start-end.false in
    record {
      order = IsThreadInOrder-suc ops starts c.args.barrier i c.loop-i.end start op is at later c.loop-i.invariant.end c.loop-i.invariant.order;
      end = subst (λ x. IsThreadEnd ops starts c.args.barrier (i + 1) x) (sym (c.stop_of-end.ensures Tick)) (IsThreadEnd-suc ops starts c.args.barrier i c.loop-i.end start op is at later c.loop-i.invariant.end);
    }

pub returns : goal.returns
returns c =
    let ops = c.args.ops.now in
    let starts = c.args.starts.now in
    let i = c.loop-i.i in
    let full : i ≡ length ops = omega (arith, c.loop-i-test.false, c.loop-i.auto.i-end, c.len-i-end.ensures) in (
      IsThreadInOrder-all ops starts c.args.barrier i (λ o n at. (let within = slice_get_within starts o n at in omega (arith, within, c.requires.table, full))) c.loop-i.invariant.order,
      subst (λ n. IsThreadEnd ops starts c.args.barrier n c.loop-i.end) full c.loop-i.invariant.end,
    )
