-- What a check says of journals: that they are a run, or which clause is the first that is false.
use Rattle.std.specs.Prelude.{ℕ, ◌<◌}
use Rattle.journal_check.specs.declared.verdict.Clause.{Clause}
use Rattle.journal_check.specs.declared.verdict.Clause.TheVariants as clauses
use Rattle.journal_check.specs.declared.verdict.Verdict.{Verdict}
use Rattle.journal_check.specs.declared.verdict.Verdict.TheVariants.{Yes, No}
use Rattle.run_law.specs.Clauses.{AccessesAreTrue, CommandsStandOnce, EntriesStandOnce, OthersAreTrue, SlicesAreLegal, StandAfterCommands, TreeIsLegal}
use Rattle.run_law.specs.Growth.{EntriesInOrder, MarksInOrder}
use Rattle.run_law.specs.Journals.{JournalsValue}
use Rattle.run_law.specs.Looks.{AreMatched}
use Rattle.run_law.specs.Runs.{IsRun}
use Rattle.script_ops.specs.Values.{ScriptValue}

-- a clause holds of these journals
abbrev pub Holds : ScriptValue → JournalsValue → Clause → Type 0
Holds script j clauses.CommandsStandOnce = CommandsStandOnce script j
Holds script j clauses.TreeIsLegal = TreeIsLegal script j
Holds script j clauses.SlicesAreLegal = SlicesAreLegal script j
Holds script j clauses.AccessesAreTrue = AccessesAreTrue script j
Holds script j clauses.OthersAreTrue = OthersAreTrue script j
Holds script j clauses.StandAfterCommands = StandAfterCommands script j
Holds script j clauses.LooksAreMatched = AreMatched script j
Holds script j clauses.EntriesStandOnce = EntriesStandOnce script j
Holds script j clauses.MarksInOrder = MarksInOrder script j
Holds script j clauses.EntriesInOrder = EntriesInOrder script j

-- the place of a clause in their order
abbrev pub rank : Clause → ℕ
rank clauses.CommandsStandOnce = 0
rank clauses.TreeIsLegal = 1
rank clauses.SlicesAreLegal = 2
rank clauses.AccessesAreTrue = 3
rank clauses.OthersAreTrue = 4
rank clauses.StandAfterCommands = 5
rank clauses.LooksAreMatched = 6
rank clauses.EntriesStandOnce = 7
rank clauses.MarksInOrder = 8
rank clauses.EntriesInOrder = 9

-- all clauses before this one hold
abbrev pub HoldBefore : ScriptValue → JournalsValue → Clause → Type 0
HoldBefore script j clause = (c : Clause) → rank c < rank clause → Holds script j c

-- all clauses before this one hold, and it does not
pub record IsFirstFalse (script : ScriptValue) (j : JournalsValue) (clause : Clause) : Type 0 where
  pub before : HoldBefore script j clause
  pub false_here : Holds script j clause → ⊥

-- what a check says of journals: that they are a run, or the first clause that is false
abbrev pub IsVerdict : ScriptValue → JournalsValue → Verdict → Type 0
IsVerdict script j Yes = IsRun script j
IsVerdict script j (No clause) = IsFirstFalse script j clause
