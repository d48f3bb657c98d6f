-- What is kept of journals that are kept whole.
-- (For functions and proofs: no promise of the program stands on it.)
use Rattle.std.specs.Prelude.{map}
use Rattle.journal_text.specs.States.{PartsRead}
use Rattle.journal_text.specs.declared.kept_journals.KeptJournals.{KeptJournals}
use Rattle.run_law.specs.Entries.{entries_of, entry_value}

-- the parts that were read
abbrev pub parts_in : KeptJournals → PartsRead
parts_in kept = record { tree = map entry_value kept.tree.items; slices = map entries_of kept.slices.items; entries = kept.entries.items }
