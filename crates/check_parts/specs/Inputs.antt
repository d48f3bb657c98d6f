-- What an input holds.
use Rattle.std.specs.Prelude.{◌≡◌, ℕ, List, Some, Result, Ok, Err}
use Rattle.check_parts.specs.BadInputs.{HasScript, IsBad}
use Rattle.check_parts.specs.Division.{division_of, journal_part}
use Rattle.check_parts.specs.declared.bad_input.BadInput.TheVariants.{BadJournal, BadScript, NoJournal, TooLarge}
use Rattle.check_parts.specs.declared.division.Division.{Division}
use Rattle.check_parts.specs.declared.form.Form.{Form}
use Rattle.check_parts.specs.declared.form.Form.TheVariants.{Check}
use Rattle.check_parts.specs.declared.input.CheckInput.{CheckInput}
use Rattle.check_parts.specs.declared.input.InputError.{InputError}
use Rattle.check_parts.specs.declared.input.InputError.TheVariants as errors
use Rattle.journal_text.specs.Readings.{IsTextOf}
use Rattle.run_law.specs.Journals.{JournalsValue}
use Rattle.script_lines.specs.declared.fault.ScriptFault.{ScriptFault}
use Rattle.script_ops.specs.Values.{ScriptValue}

-- An input of a check holds this script, and after it the text of these journals.
pub record HoldsJournals (bytes : List ℕ) (script : ScriptValue) (journals : JournalsValue) : Type 0 where
  pub division : Division
  pub has_script : HasScript Check bytes script
  pub divides : division_of bytes ≡ Some division
  pub text : IsTextOf script (journal_part division bytes) journals

-- ---- what the readers of inputs answer; out of memory says nothing of the input

-- (For proofs.) the script that this reading gives, or its fault
abbrev pub IsScriptIn : Result ScriptValue InputError → Result ScriptValue ScriptFault → Type 0
IsScriptIn (Ok script) reading = reading ≡ Ok script
IsScriptIn (Err (errors.Bad (BadScript fault))) reading = reading ≡ Err fault
IsScriptIn (Err (errors.Bad TooLarge)) reading = ⊥
IsScriptIn (Err (errors.Bad NoJournal)) reading = ⊥
IsScriptIn (Err (errors.Bad (BadJournal line))) reading = ⊥
IsScriptIn (Err errors.NoMemory) reading = Unit {0}

-- (For proofs.) the script of an input, or what is wrong with it
abbrev pub ReadsScript : Form → List ℕ → Result ScriptValue InputError → Type 0
ReadsScript form bytes (Ok script) = HasScript form bytes script
ReadsScript form bytes (Err (errors.Bad bad)) = IsBad form bytes bad
ReadsScript form bytes (Err errors.NoMemory) = Unit {0}

-- (For proofs.) the script and the journals of an input of a check, or what is wrong with it
abbrev pub ReadsInput : List ℕ → Result CheckInput InputError → Type 0
ReadsInput bytes (Ok held) = HoldsJournals bytes held.script held.journals
ReadsInput bytes (Err (errors.Bad bad)) = IsBad Check bytes bad
ReadsInput bytes (Err errors.NoMemory) = Unit {0}
