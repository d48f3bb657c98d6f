-- What is made of the bytes of an input, and laws of runs.
-- (For functions and proofs: no promise of the program stands on it.)
use Rattle.std.specs.Prelude.{◌≡◌}
use Rattle.call_rim.specs.declared.performed.Performed.{Performed}
use Rattle.call_rim.specs.declared.performed.Performed.TheVariants as performed
use Rattle.check_parts.specs.BadInputs.{bad_line}
use Rattle.check_parts.specs.declared.bad_input.BadInput.{BadInput}
use Rattle.check_top.specs.Endings.{Isolates}
use Rattle.journal_text.specs.Lines.{journal_text}
use Rattle.journal_text.specs.Readings.{IsTextOf}
use Rattle.run_law.specs.Journals.{JournalsValue}
use Rattle.run_law.specs.Runs.{IsRun}
use Rattle.script_ops.specs.Values.{IsLawful, ScriptValue}

-- the line that says what is wrong, unless memory ran out
abbrev pub TellsBad : {T : Type 0} → BadInput → Performed T → Type 0
TellsBad bad (performed.Refused line) = line.items ≡ bad_line bad
TellsBad bad (performed.Reported outcome report) = ⊥
TellsBad bad performed.NoMemory = Unit {0}

-- what is proved of every run of a lawful script holds of it
abbrev pub RunsIsolate : Type 0
RunsIsolate = (script : ScriptValue) (run : JournalsValue) → IsLawful script → IsRun script run → Isolates script run

-- the text of the journals of every run of a lawful script reads back as these journals
abbrev pub RunsReadBack : Type 0
RunsReadBack = (script : ScriptValue) (run : JournalsValue) → IsLawful script → IsRun script run → IsTextOf script (journal_text script.machine run) run
