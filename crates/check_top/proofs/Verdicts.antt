-- What a verdict says besides, and that the journals of a check are the only ones that its input holds.
use Rattle.std.proofs.Common.{◌≡◌, ℕ, List, subst, sym}
use Rattle.check_parts.specs.Division.{journal_part}
use Rattle.check_parts.specs.Inputs.{HoldsJournals}
use Rattle.check_parts.specs.declared.division.Division.{Division}
use Rattle.check_top.specs.Endings.{IsolatesBy}
use Rattle.check_top.specs.Performances.{RunsIsolate}
use Rattle.journal_check.specs.Verdicts.{Holds, IsFirstFalse, IsVerdict}
use Rattle.journal_check.specs.declared.verdict.Clause.{Clause}
use Rattle.journal_check.specs.declared.verdict.Clause.TheVariants as clauses
use Rattle.journal_check.specs.declared.verdict.Verdict.{Verdict}
use Rattle.journal_check.specs.declared.verdict.Verdict.TheVariants.{No, Yes}
use Rattle.journal_text.specs.Laws.{TextsAreOfOneValue}
use Rattle.journal_text.specs.Readings.{IsTextOf}
use Rattle.run_law.specs.Clauses.{MeetsClauses, RunsByClauses}
use Rattle.run_law.specs.Journals.{JournalsValue}
use Rattle.run_law.specs.Runs.{IsRun}
use Rattle.script_ops.specs.Values.{IsLawful, ScriptValue}

-- each clause holds of journals that meet all
Holds-clause : (script : ScriptValue) (j : JournalsValue) (clause : Clause) → MeetsClauses script j → Holds script j clause
Holds-clause script j clauses.CommandsStandOnce meets = meets.commands_once
Holds-clause script j clauses.TreeIsLegal meets = meets.tree_legal
Holds-clause script j clauses.SlicesAreLegal meets = meets.slices_legal
Holds-clause script j clauses.AccessesAreTrue meets = meets.accesses_true
Holds-clause script j clauses.OthersAreTrue meets = meets.others_true
Holds-clause script j clauses.StandAfterCommands meets = meets.after_commands
Holds-clause script j clauses.LooksAreMatched meets = meets.looks_matched
Holds-clause script j clauses.EntriesStandOnce meets = meets.entries_once
Holds-clause script j clauses.MarksInOrder meets = meets.marks
Holds-clause script j clauses.EntriesInOrder meets = meets.entries_in_order

-- journals with a false clause are no run
first_false-no_run : RunsByClauses → (script : ScriptValue) (j : JournalsValue) (clause : Clause) → IsFirstFalse script j clause → IsRun script j → ⊥
first_false-no_run runs script j clause first run = first.false_here (Holds-clause script j clause ((runs script j run.all_slices).0 run))

-- what a verdict says besides
pub IsolatesBy-verdict : RunsByClauses → RunsIsolate → (script : ScriptValue) (j : JournalsValue) (verdict : Verdict) → IsLawful script → IsVerdict script j verdict → IsolatesBy verdict script j
IsolatesBy-verdict runs isolate script j Yes lawful says = isolate script j lawful says
IsolatesBy-verdict runs isolate script j (No clause) lawful says = first_false-no_run runs script j clause says

-- two readings of one input, of which one has a lawful script
pub HoldsJournals-same : TextsAreOfOneValue → (bytes : List ℕ) (s t : ScriptValue) (j k : JournalsValue) → IsLawful s → HoldsJournals bytes s j → HoldsJournals bytes t k → j ≡ k
HoldsJournals-same texts bytes s t j k lawful a b =
    let same_script : s ≡ t = (let x = a.has_script.is_script in let y = b.has_script.is_script in cc) in
    let same_division : b.division ≡ a.division = (let x = a.divides in let y = b.divides in cc) in
    let text : IsTextOf s (journal_part a.division bytes) k = subst (λ (d : Division). IsTextOf s (journal_part d bytes) k) same_division (subst (λ (u : ScriptValue). IsTextOf u (journal_part b.division bytes) k) (sym same_script) b.text) in
    texts s (journal_part a.division bytes) j k lawful a.text text
