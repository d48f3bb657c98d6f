-- The line that tells a verdict.
use Rattle.std.specs.Prelude.{ℕ, List, [], ◌∷◌, ◌++◌, codes}
use Rattle.journal_check.specs.declared.verdict.Clause.{Clause}
use Rattle.journal_check.specs.declared.verdict.Clause.TheVariants.{AccessesAreTrue, CommandsStandOnce, EntriesInOrder, EntriesStandOnce, LooksAreMatched, MarksInOrder, OthersAreTrue, SlicesAreLegal, StandAfterCommands, TreeIsLegal}
use Rattle.journal_check.specs.declared.verdict.Verdict.{Verdict}
use Rattle.journal_check.specs.declared.verdict.Verdict.TheVariants.{No, Yes}

-- The word for a clause, in the order in which they are asked: each command stands once; the tree's history is legal; those of the
-- slices are; accesses are true to the tree; the other entries are owed; entries stand after the commands before their epoch; looks
-- are matched; entries stand once; commands and accesses keep the script's order; so do entries.
abbrev pub clause_word : Clause → List ℕ
clause_word CommandsStandOnce = codes "D15.1"
clause_word TreeIsLegal = codes "D9"
clause_word SlicesAreLegal = codes "D11"
clause_word AccessesAreTrue = codes "D13.1"
clause_word OthersAreTrue = codes "D13.2"
clause_word StandAfterCommands = codes "D13.3"
clause_word LooksAreMatched = codes "D14"
clause_word EntriesStandOnce = codes "D15.2"
clause_word MarksInOrder = codes "D15.3"
clause_word EntriesInOrder = codes "D15.4"

-- the line that tells a verdict: `yes`, or `no` and the word for the first clause that is false
abbrev pub verdict_line : Verdict → List ℕ
verdict_line Yes = codes "yes" ++ 10 ∷ []
verdict_line (No clause) = codes "no " ++ clause_word clause ++ 10 ∷ []
