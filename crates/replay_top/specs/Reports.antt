-- What is reported on a script with journals.
use Rattle.std.specs.Prelude.{◌≡◌, ℕ, List, ◌++◌, codes, ◌∷◌, [], Option, Some, None}
use Rattle.call_rim.specs.Within.{ReportsWithin, RefusesWithin}
use Rattle.call_rim.specs.declared.performed.Performed.{Performed}
use Rattle.call_rim.specs.declared.performed.Performed.TheVariants as performed
use Rattle.check_parts.specs.BadInputs.{HasScript, IsBad, bad_line, script_bytes}
use Rattle.check_parts.specs.Inputs.{HoldsJournals}
use Rattle.check_parts.specs.VerdictLines.{verdict_line}
use Rattle.check_parts.specs.declared.bad_input.BadInput.{BadInput}
use Rattle.check_parts.specs.declared.form.Form.TheVariants.{Check, Export}
use Rattle.check_parts.specs.declared.form.Play.TheVariants.{Step}
use Rattle.check_parts.specs.declared.limits.TheConstants.{MOST_CHECK_BYTES}
use Rattle.journal_check.specs.Verdicts.{IsVerdict}
use Rattle.journal_check.specs.declared.verdict.Clause.{Clause}
use Rattle.journal_check.specs.declared.verdict.Verdict.TheVariants.{No}
use Rattle.replay_top.specs.Lines.{other_lines}
use Rattle.replay_top.specs.declared.form.ReplayForm.{ReplayForm}
use Rattle.replay_top.specs.declared.form.ReplayForm.TheVariants as forms
use Rattle.replay_top.specs.declared.outcome.Replayed.{Replayed}
use Rattle.replay_top.specs.declared.outcome.Replayed.TheVariants as outcomes
use Rattle.run_windows.specs.Isolation.{BeginsGroupWindows, BeginsLockWindows, HoldsRegions, IsolatesGroups}
use Rattle.resctrl_top.specs.Outputs.{IsOutput}
use Rattle.run_law.specs.Journals.{JournalsValue}
use Rattle.run_law.specs.Runs.{IsRun}
use Rattle.report_pieces.specs.declared.flags.Flags.{Flags}
use Rattle.script_ops.specs.Values.{IsLawful, ScriptValue}
use Rattle.step_world.specs.Play.{IsPlay}

-- The input holds a lawful script and these journals, which are a run of it. The text has the lines of the script but for `order`
-- lines. It is a script itself, not too large for one, whose play by its order lines has just these journals.
pub record IsOrdered (bytes : List ℕ) (run : JournalsValue) (text : List ℕ) : Type 0 where
  pub script : ScriptValue
  pub ordered : ScriptValue
  pub holds : HoldsJournals bytes script run
  pub lawful : IsLawful script
  pub is_run : IsRun script run
  pub lines : other_lines text ≡ other_lines (script_bytes Check bytes)
  pub reads : HasScript (Export Step) text ordered
  pub plays : IsPlay ordered run

-- the input holds a lawful script and journals, which are no run of it, and the text is the line of the first clause that is false
pub record IsNoRun (bytes : List ℕ) (clause : Clause) (text : List ℕ) : Type 0 where
  pub script : ScriptValue
  pub run : JournalsValue
  pub holds : HoldsJournals bytes script run
  pub lawful : IsLawful script
  pub says : IsVerdict script run (No clause)
  pub line : text ≡ verdict_line (No clause)

-- a text begins with this line
abbrev pub BeginsWith : List ℕ → List ℕ → Type 0
BeginsWith line text = (rest : List ℕ) × (text ≡ line ++ rest)

-- The input holds a lawful script and journals, which are a run of it, and the text begins with this line. That there is no order is not
-- promised.
pub record IsUnordered (bytes line text : List ℕ) : Type 0 where
  pub script : ScriptValue
  pub run : JournalsValue
  pub holds : HoldsJournals bytes script run
  pub lawful : IsLawful script
  pub is_run : IsRun script run
  pub begins : BeginsWith line text

-- the first line where no order was found
abbrev pub no_order_line : List ℕ
no_order_line = codes "no order" ++ 10 ∷ []

-- the line for an order that no script can hold
abbrev pub too_long_line : List ℕ
too_long_line = codes "order too long" ++ 10 ∷ []

-- what the text of `order` is, by what was found
abbrev pub Finds : List ℕ → Replayed → List ℕ → Type 0
Finds bytes (outcomes.Ordered run) text = IsOrdered bytes run text
Finds bytes (outcomes.NoRun clause) text = IsNoRun bytes clause text
Finds bytes outcomes.NoOrder text = IsUnordered bytes no_order_line text
Finds bytes outcomes.TooLong text = IsUnordered bytes too_long_line text
Finds bytes (outcomes.Reported run) text = ⊥

-- The input holds a script and these journals, which are a run of it. As every run, it isolates groups and holds regions, and each flush
-- and each lock begins a window of each group that is exclusive then, each lock also one of its region. The text is the simulator's
-- report of them that these flags ask for.
pub record IsReport (flags : Flags) (bytes : List ℕ) (run : JournalsValue) (text : List ℕ) : Type 0 where
  pub script : ScriptValue
  pub holds : HoldsJournals bytes script run
  pub lawful : IsLawful script
  pub is_run : IsRun script run
  pub isolates : IsolatesGroups script run
  pub holds_regions : HoldsRegions script run
  pub begins_windows : BeginsLockWindows script run
  pub begins_group_windows : BeginsGroupWindows script run
  pub output : IsOutput script run flags text

-- what the text of `report` with these flags is, by what was found
abbrev pub FindsReport : Flags → List ℕ → Replayed → List ℕ → Type 0
FindsReport flags bytes (outcomes.Reported run) text = IsReport flags bytes run text
FindsReport flags bytes (outcomes.NoRun clause) text = IsNoRun bytes clause text
FindsReport flags bytes (outcomes.Ordered run) text = ⊥
FindsReport flags bytes outcomes.NoOrder text = ⊥
FindsReport flags bytes outcomes.TooLong text = ⊥

-- the input is bad, and this is the line that says why
pub record Refuses (bytes line : List ℕ) : Type 0 where
  pub bad : BadInput
  pub is_bad : IsBad Check bytes bad
  pub told : line ≡ bad_line bad

-- what is reported of no more bytes than the most, by what the command line asks for; nothing, where it is not valid
abbrev pub reports : Option ReplayForm → List ℕ → Replayed → List ℕ → Type 0
reports (Some forms.Order) = ReportsWithin MOST_CHECK_BYTES Finds
reports (Some (forms.Report flags)) = ReportsWithin MOST_CHECK_BYTES (FindsReport flags)
reports None = λ bytes found text. ⊥

-- what is refused
abbrev pub refuses : List ℕ → List ℕ → Type 0
refuses = RefusesWithin MOST_CHECK_BYTES Refuses

-- (For proofs.) a text is a script, not too large for one, whose play has just these journals
abbrev pub Makes : List ℕ → JournalsValue → Type 0
Makes text run = (ordered : ScriptValue) × HasScript (Export Step) text ordered × IsPlay ordered run

-- (For proofs.) the text of a bad input's line
abbrev pub TellsBad : BadInput → Performed Replayed → Type 0
TellsBad bad (performed.Refused line) = line.items ≡ bad_line bad
TellsBad bad (performed.Reported outcome report) = ⊥
TellsBad bad performed.NoMemory = Unit {0}

-- (For proofs.) no order was found, or memory ran out
abbrev pub TellsUnordered : Performed Replayed → Type 0
TellsUnordered (performed.Refused line) = ⊥
TellsUnordered (performed.Reported outcomes.NoOrder report) = BeginsWith no_order_line report.items
TellsUnordered (performed.Reported outcomes.TooLong report) = BeginsWith too_long_line report.items
TellsUnordered (performed.Reported (outcomes.Ordered run) report) = ⊥
TellsUnordered (performed.Reported (outcomes.NoRun clause) report) = ⊥
TellsUnordered (performed.Reported (outcomes.Reported run) report) = ⊥
TellsUnordered performed.NoMemory = Unit {0}
