use Rattle.journal_check.specs.Homes.{AreMarked}
use Rattle.journal_check.specs.Tables.{IsTableOf}
use Rattle.journal_check.proofs.homes.are_accesses_once.Given as goal

abbrev pub invariant-loop-i : goal.invariant-loop-i
invariant-loop-i l = record {
  table : IsTableOf l.script l.marks;
  marks : AreMarked l.script l.j l.i 0 l.marks;
}
