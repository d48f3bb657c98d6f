-- How a call ends: the endings of `call_rim`, with what a form exports or checks, and what is promised of it.
use Rattle.std.specs.Prelude.{◌≡◌, ℕ, is_some, IfSome, IsSomeAnd, List, Option}
use Rattle.call_rim.specs.Endings.{LeavesBy}
use Rattle.call_rim.specs.Endings as rim
use Rattle.call_rim.specs.Outside.{Reading, Writing}
use Rattle.call_rim.specs.declared.status.Status.{Status}
use Rattle.check_parts.specs.BadInputs.{HasScript, IsBad, bad_line, most_of}
use Rattle.check_parts.specs.Exports.{export_text}
use Rattle.check_parts.specs.Forms.{usage_line}
use Rattle.check_parts.specs.Inputs.{HoldsJournals}
use Rattle.check_parts.specs.VerdictLines.{verdict_line}
use Rattle.check_parts.specs.declared.bad_input.BadInput.{BadInput}
use Rattle.check_parts.specs.declared.form.Form.{Form}
use Rattle.check_parts.specs.declared.form.Form.TheVariants.{Check, Export}
use Rattle.check_parts.specs.declared.form.Play.{Play}
use Rattle.check_parts.specs.declared.form.Play.TheVariants.{Run, Step}
use Rattle.check_top.specs.Statuses.{ended_by}
use Rattle.check_top.specs.declared.checked.Checked.{Checked}
use Rattle.check_top.specs.declared.ended.CheckEnded.{CheckEnded}
use Rattle.journal_check.specs.Verdicts.{IsVerdict}
use Rattle.journal_check.specs.declared.verdict.Verdict.{Verdict}
use Rattle.journal_check.specs.declared.verdict.Verdict.TheVariants as verdicts
use Rattle.journal_text.specs.Lines.{journal_text}
use Rattle.journal_text.specs.Readings.{IsTextOf}
use Rattle.run_windows.specs.Isolation.{BeginsGroupWindows, BeginsLockWindows, HoldsRegions, IsolatesGroups}
use Rattle.run_law.specs.Journals.{JournalsValue}
use Rattle.run_law.specs.Runs.{IsRun}
use Rattle.script_ops.specs.Values.{IsLawful, ScriptValue}
use Rattle.step_world.specs.Play.{IsPlay, IsPlayBy}

-- how a script is played: by its order lines, or in whatever order its workers take the locks, for which there are order lists by
-- which the play of the script has just these journals
abbrev pub PlaysAs : Play → ScriptValue → JournalsValue → Type 0
PlaysAs Step script run = IsPlay script run
PlaysAs Run script run = (orders : List (List ℕ)) × IsPlayBy script orders run

-- What is proved of every run: it isolates groups and holds regions, each flush and each lock begins a window of each group that
-- is exclusive then, and each lock begins one of its region.
pub record Isolates (script : ScriptValue) (run : JournalsValue) : Type 0 where
  pub groups : IsolatesGroups script run
  pub regions : HoldsRegions script run
  pub group_windows : BeginsGroupWindows script run
  pub lock_windows : BeginsLockWindows script run

-- what a verdict says besides: of a run all that is proved of every run, and of other journals that they are none
abbrev pub IsolatesBy : Verdict → ScriptValue → JournalsValue → Type 0
IsolatesBy verdicts.Yes script run = Isolates script run
IsolatesBy (verdicts.No clause) script run = IsRun script run → ⊥

-- the input is bad, and this is the line that says why
pub record Refuses (form : Form) (bytes line : List ℕ) : Type 0 where
  pub bad : BadInput
  pub is_bad : IsBad form bytes bad
  pub told : line ≡ bad_line bad

-- The input is a lawful script, the journals are those of its play, which are a run, their text reads back as these, and the text is
-- its export.
pub record IsExported (play : Play) (bytes : List ℕ) (found : Checked) (text : List ℕ) : Type 0 where
  pub script : ScriptValue
  pub has_script : HasScript (Export play) bytes script
  pub lawful : IsLawful script
  pub says : found.verdict ≡ verdicts.Yes
  pub is_run : IsRun script found.journals
  pub plays : PlaysAs play script found.journals
  pub isolates : Isolates script found.journals
  pub reads_back : IsTextOf script (journal_text script.machine found.journals) found.journals
  pub told : text ≡ export_text bytes script.machine found.journals

-- The input holds a lawful script and these journals, and no others, this is their verdict, and the text is its line.
pub record IsChecked (bytes : List ℕ) (found : Checked) (text : List ℕ) : Type 0 where
  pub script : ScriptValue
  pub holds : HoldsJournals bytes script found.journals
  pub alone : (other : ScriptValue) (run : JournalsValue) → HoldsJournals bytes other run → found.journals ≡ run
  pub lawful : IsLawful script
  pub says : IsVerdict script found.journals found.verdict
  pub isolates : IsolatesBy found.verdict script found.journals
  pub told : text ≡ verdict_line found.verdict

-- what a form reports
abbrev pub Reports : Form → List ℕ → Checked → List ℕ → Type 0
Reports (Export play) = IsExported play
Reports Check = IsChecked

-- what a command line refuses: nothing, where it is not valid
abbrev pub refuses_by : Option Form → List ℕ → List ℕ → Type 0
refuses_by form bytes line = IsSomeAnd form (λ form. Refuses form bytes line)

-- what it reports: nothing, where it is not valid
abbrev pub reports_by : Option Form → List ℕ → Checked → List ℕ → Type 0
reports_by form bytes found text = IsSomeAnd form (λ form. Reports form bytes found text)

-- A call with words of this form ended as the rim has it, with the status that is due, and hands this back: No in place of Done where
-- the verdict is no, and the journals that were found. Of the source it leaves the rest behind one byte more than is taken, unless the
-- source failed or memory ran out.
pub record Ends (form : Option Form) (source : Reading) (sink : Writing) (ended : CheckEnded) : Type 0 where
  pub status : Status
  pub found : Option Checked
  pub ends : rim.Ends (refuses_by form) (reports_by form) (rim.call_of (is_some form) usage_line source sink) status found
  pub complete : rim.IsComplete (refuses_by form) (rim.call_of (is_some form) usage_line source sink) status
  pub leaves : IfSome form (λ form. LeavesBy (most_of form) source status)
  pub told : ended ≡ ended_by status found
