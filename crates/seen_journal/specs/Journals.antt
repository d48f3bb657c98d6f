-- A journal, as contracts see it.
-- (For functions and proofs: no promise of the program stands on it.)
use Rattle.std.specs.Prelude.{ℕ, List}
use Rattle.atomic_table.specs.Seated.{TableId}

-- what names a journal: its table, and the quotas of its passes
pub record JournalName : Type 0 where
  pub table : TableId
  pub quotas : List ℕ

-- its name, and its list: each entry with the number of the pass that added it
pub record JournalValue (E : Type 0) : Type 0 where
  pub name : JournalName
  pub entries : List (ℕ × E)
