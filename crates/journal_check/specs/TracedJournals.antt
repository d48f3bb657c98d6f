-- Journals with what their tree says of the commands.
-- (For functions and proofs: no promise of the program stands on it.)
use Rattle.std.specs.Prelude.{length}
use Rattle.journal_check.specs.Places.{AreOwnPlaces, ArePlaces}
use Rattle.journal_check.specs.Tables.{IsTableOf}
use Rattle.journal_check.specs.Traces.{IsTrace}
use Rattle.journal_check.specs.declared.traced_journals.TracedJournals.{TracedJournals}

-- the steps and the places are those of the commands in the history of the tree
pub record IsTraced (t : TracedJournals) : Type 0 where
  pub trace : IsTrace t.script.now t.journals.now.tree (length t.journals.now.tree) t.steps.now
  pub table : IsTableOf t.script.now t.places.now
  pub places : ArePlaces t.script.now t.places.now t.journals.now.tree
  pub own : AreOwnPlaces t.places.now
