use Rattle.journal_check.specs.Homes.{AreMarked}
use Rattle.journal_check.specs.Tables.{IsTableOf}
use Rattle.journal_check.proofs.homes.mark_slice.Given as goal

abbrev pub invariant-loop-p : goal.invariant-loop-p
invariant-loop-p l = record {
  table : IsTableOf l.script l.marks;
  marks : AreMarked l.script l.j l.i l.p l.marks;
}
