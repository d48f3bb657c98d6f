use Rattle.std.proofs.Common.{◌<◌, ◌≤◌, List, length, subst}
use Rattle.cache_core.specs.declared.entry.SliceEntry.{SliceEntry}
use Rattle.journal_check.proofs.HomeMarks.{AreMarked-slice}
use Rattle.journal_check.proofs.homes.mark_slice.Goals as goal

pub mark-requires-clause-position : goal.mark-requires-clause-position
mark-requires-clause-position c = subst (λ (es : List SliceEntry). c.loop-p.p < length es) c.slice-entries.ensures c.loop-p-test.true

pub loop-p-preserved : goal.loop-p-preserved
loop-p-preserved c = record {
  table = c.mark.ensures.table;
  marks = c.mark.ensures.marked c.if-not-mark.false;
}

pub returns-clause-marked : goal.returns-clause-marked
returns-clause-marked c passes =
    AreMarked-slice c.args.script.now c.args.j.now c.loop-p.marks c.args.i c.loop-p.p (subst (λ (es : List SliceEntry). length es ≤ c.loop-p.p) c.slice-entries.ensures c.loop-p-test.false) c.loop-p.invariant.marks
