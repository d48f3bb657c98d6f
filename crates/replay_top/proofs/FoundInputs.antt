-- What was found of an input is found of its one script and its one run.
use Rattle.std.proofs.Common.{◌≡◌, ℕ, true, false, List, Option, Some, None, refl, sym, subst, ◌∙◌, arith}
use Rattle.check_parts.specs.BadInputs.{IsBad}
use Rattle.check_parts.specs.Division.{journal_part}
use Rattle.check_parts.specs.Inputs.{HoldsJournals}
use Rattle.check_parts.specs.declared.bad_input.BadInput.{BadInput}
use Rattle.check_parts.specs.declared.bad_input.BadInput.TheVariants.{BadJournal, BadScript, NoJournal, TooLarge}
use Rattle.check_parts.specs.declared.division.Division.{Division}
use Rattle.check_parts.specs.declared.form.Form.TheVariants.{Check}
use Rattle.journal_check.specs.Verdicts.{Holds, IsFirstFalse}
use Rattle.journal_check.specs.declared.verdict.Clause.{Clause}
use Rattle.journal_check.specs.declared.verdict.Clause.TheVariants as clauses
use Rattle.journal_text.specs.Laws.{TextsAreOfOneValue}
use Rattle.journal_text.specs.Readings.{IsTextOf}
use Rattle.replay_top.specs.Endings.{says_no_run}
use Rattle.replay_top.specs.Reports.{Finds, FindsReport, IsNoRun, reports}
use Rattle.replay_top.specs.declared.form.ReplayForm.{ReplayForm}
use Rattle.replay_top.specs.declared.form.ReplayForm.TheVariants as forms
use Rattle.replay_top.specs.declared.outcome.Replayed.{Replayed}
use Rattle.replay_top.specs.declared.outcome.Replayed.TheVariants as outcomes
use Rattle.run_law.specs.Clauses.{MeetsClauses, RunsByClauses}
use Rattle.run_law.specs.Journals.{JournalsValue}
use Rattle.run_law.specs.Runs.{IsRun}
use Rattle.report_pieces.specs.declared.flags.Flags.{Flags}
use Rattle.script_ops.specs.Values.{IsLawful, ScriptValue}

-- an input that holds journals is not bad
pub HoldsJournals-good : (bytes : List ℕ) (script : ScriptValue) (run : JournalsValue) (why : BadInput) → HoldsJournals bytes script run → IsBad Check bytes why → ⊥
HoldsJournals-good bytes script run TooLarge holds bad = omega (arith, holds.has_script.few, bad)
HoldsJournals-good bytes script run (BadScript fault) holds bad = let is = holds.has_script.is_script in let no = bad.1 in absurd cc
HoldsJournals-good bytes script run NoJournal holds bad = let is = holds.divides in let no = bad.none in absurd cc
HoldsJournals-good bytes script run (BadJournal line) holds bad =
    let same_script : script ≡ bad.script = (let is = holds.has_script.is_script in let is' = bad.has_script.is_script in cc) in
    let same_division : holds.division ≡ bad.division = (let is = holds.divides in let is' = bad.divides in cc) in
    bad.bad.no_journals run
    (subst (λ (d : Division). IsTextOf bad.script (journal_part d bytes) run) same_division (subst (λ (s : ScriptValue). IsTextOf s (journal_part holds.division bytes) run) same_script holds.text))

-- two readings of one input have the same script
pub HoldsJournals-script : (bytes : List ℕ) (s t : ScriptValue) (j k : JournalsValue) → HoldsJournals bytes s j → HoldsJournals bytes t k → s ≡ t
HoldsJournals-script bytes s t j k a b = let x = a.has_script.is_script in let y = b.has_script.is_script in cc

-- and, where that is lawful, the same journals
pub HoldsJournals-journals : TextsAreOfOneValue → (bytes : List ℕ) (s t : ScriptValue) (j k : JournalsValue) → IsLawful s → HoldsJournals bytes s j → HoldsJournals bytes t k → j ≡ k
HoldsJournals-journals texts bytes s t j k lawful a b =
    let same_script = HoldsJournals-script bytes s t j k a b in
    let same_division : b.division ≡ a.division = (let x = a.divides in let y = b.divides in cc) in
    let text : IsTextOf s (journal_part a.division bytes) k = subst (λ (d : Division). IsTextOf s (journal_part d bytes) k) same_division (subst (λ (u : ScriptValue). IsTextOf u (journal_part b.division bytes) k) (sym same_script) b.text) in
    texts s (journal_part a.division bytes) j k lawful a.text text

-- ---- what was found

-- each clause holds of journals that meet all
Holds-clause : (script : ScriptValue) (j : JournalsValue) (clause : Clause) → MeetsClauses script j → Holds script j clause
Holds-clause script j clauses.CommandsStandOnce meets = meets.commands_once
Holds-clause script j clauses.TreeIsLegal meets = meets.tree_legal
Holds-clause script j clauses.SlicesAreLegal meets = meets.slices_legal
Holds-clause script j clauses.AccessesAreTrue meets = meets.accesses_true
Holds-clause script j clauses.OthersAreTrue meets = meets.others_true
Holds-clause script j clauses.StandAfterCommands meets = meets.after_commands
Holds-clause script j clauses.LooksAreMatched meets = meets.looks_matched
Holds-clause script j clauses.EntriesStandOnce meets = meets.entries_once
Holds-clause script j clauses.MarksInOrder meets = meets.marks
Holds-clause script j clauses.EntriesInOrder meets = meets.entries_in_order

-- journals with a false clause are no run
IsRun-first_false : RunsByClauses → (script : ScriptValue) (j : JournalsValue) (clause : Clause) → IsFirstFalse script j clause → IsRun script j → ⊥
IsRun-first_false runs script j clause first run = first.false_here (Holds-clause script j clause ((runs script j run.all_slices).0 run))

-- the script and the journals of an input of which this was found
pub record IsFoundOf (bytes : List ℕ) (found : Replayed) : Type 0 where
  pub script : ScriptValue
  pub run : JournalsValue
  pub holds : HoldsJournals bytes script run
  pub lawful : IsLawful script
  pub no_run : says_no_run (Some found) ≡ true → IsRun script run → ⊥
  pub is_run : says_no_run (Some found) ≡ false → IsRun script run

-- journals that are a run, where that was not said to be otherwise
IsFoundOf-run : (bytes : List ℕ) (found : Replayed) (script : ScriptValue) (run : JournalsValue) → says_no_run (Some found) ≡ false → HoldsJournals bytes script run → IsLawful script → IsRun script run → IsFoundOf bytes found
IsFoundOf-run bytes found script run yes_run holds lawful is_run =
    record { script = script; run = run; holds = holds; lawful = lawful; no_run = λ said run. absurd (let never : true ≡ false = sym said ∙ yes_run in cc); is_run = λ yes_run. is_run }

-- journals that are none
IsFoundOf-no_run : RunsByClauses → (bytes : List ℕ) (clause : Clause) (text : List ℕ) → IsNoRun bytes clause text → IsFoundOf bytes (outcomes.NoRun clause)
IsFoundOf-no_run runs bytes clause text is = record {
  script = is.script;
  run = is.run;
  holds = is.holds;
  lawful = is.lawful;
  no_run = λ no_run run. IsRun-first_false runs is.script is.run clause is.says run;
  is_run = λ is_run. absurd (let never : true ≡ false = is_run in cc);
}

-- of `order`
IsFoundOf-order : RunsByClauses → (bytes : List ℕ) (found : Replayed) (text : List ℕ) → Finds bytes found text → IsFoundOf bytes found
IsFoundOf-order runs bytes (outcomes.Ordered run) text is = IsFoundOf-run bytes (outcomes.Ordered run) is.script run refl is.holds is.lawful is.is_run
IsFoundOf-order runs bytes (outcomes.NoRun clause) text is = IsFoundOf-no_run runs bytes clause text is
IsFoundOf-order runs bytes outcomes.NoOrder text is = IsFoundOf-run bytes outcomes.NoOrder is.script is.run refl is.holds is.lawful is.is_run
IsFoundOf-order runs bytes outcomes.TooLong text is = IsFoundOf-run bytes outcomes.TooLong is.script is.run refl is.holds is.lawful is.is_run
IsFoundOf-order runs bytes (outcomes.Reported run) text is = absurd is

-- of `report`
IsFoundOf-report : RunsByClauses → (flags : Flags) (bytes : List ℕ) (found : Replayed) (text : List ℕ) → FindsReport flags bytes found text → IsFoundOf bytes found
IsFoundOf-report runs flags bytes (outcomes.Reported run) text is = IsFoundOf-run bytes (outcomes.Reported run) is.script run refl is.holds is.lawful is.is_run
IsFoundOf-report runs flags bytes (outcomes.NoRun clause) text is = IsFoundOf-no_run runs bytes clause text is
IsFoundOf-report runs flags bytes (outcomes.Ordered run) text is = absurd is
IsFoundOf-report runs flags bytes outcomes.NoOrder text is = absurd is
IsFoundOf-report runs flags bytes outcomes.TooLong text is = absurd is

-- of either
pub IsFoundOf-reported : RunsByClauses → (form : Option ReplayForm) (bytes : List ℕ) (found : Replayed) (text : List ℕ) → reports form bytes found text → IsFoundOf bytes found
IsFoundOf-reported runs (Some forms.Order) bytes found text (few, is) = IsFoundOf-order runs bytes found text is
IsFoundOf-reported runs (Some (forms.Report flags)) bytes found text (few, is) = IsFoundOf-report runs flags bytes found text is
IsFoundOf-reported runs None bytes found text is = absurd is
