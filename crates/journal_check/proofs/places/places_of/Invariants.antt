use Rattle.std.proofs.Common.{map}
use Rattle.journal_check.specs.Places.{ArePlacesUpTo}
use Rattle.journal_check.specs.Tables.{IsTableOf}
use Rattle.run_law.specs.Entries.{entry_value}
use Rattle.journal_check.proofs.places.places_of.Given as goal

abbrev pub invariant-loop-k : goal.invariant-loop-k
invariant-loop-k l = record {
  table : IsTableOf l.script l.places;
  places : ArePlacesUpTo l.places (map entry_value l.tree) l.k;
}
