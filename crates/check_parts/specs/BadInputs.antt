-- What is wrong with an input, by what is asked of it, and the line that tells it.
use Rattle.std.specs.Prelude.{◌≡◌, ℕ, ◌+◌, ◌<◌, ◌≤◌, List, [], ◌∷◌, ◌++◌, length, codes, decimal, Some, None, Ok, Err}
use Rattle.check_parts.specs.Division.{division_of, journal_part, script_part}
use Rattle.check_parts.specs.declared.bad_input.BadInput.{BadInput}
use Rattle.check_parts.specs.declared.bad_input.BadInput.TheVariants.{BadJournal, BadScript, NoJournal, TooLarge}
use Rattle.check_parts.specs.declared.division.Division.{Division}
use Rattle.check_parts.specs.declared.form.Form.{Form}
use Rattle.check_parts.specs.declared.form.Form.TheVariants.{Check, Export}
use Rattle.check_parts.specs.declared.limits.TheConstants.{MOST_CHECK_BYTES}
use Rattle.journal_text.specs.Readings.{IsBadLine}
use Rattle.script_ops.specs.Values.{ScriptValue}
use Rattle.script_ops.specs.declared.limits.TheConstants.{MOST_SCRIPT_BYTES}
use Rattle.script_text.specs.Reading.{script_of}
use Rattle.top_parts.specs.Meaning.{refusal_line}
use Rattle.top_parts.specs.declared.refusal.Refusal.TheVariants.{BadLine}

-- the most bytes that are taken
abbrev pub most_of : Form → ℕ
most_of (Export play) = MOST_SCRIPT_BYTES
most_of Check = MOST_CHECK_BYTES

-- the bytes of the script of an input: all of them for an export, and for a check those before the journals
abbrev pub script_bytes : Form → List ℕ → List ℕ
script_bytes (Export play) bytes = bytes
script_bytes Check bytes = script_part (division_of bytes) bytes

-- the input is not too large, and its script is this one
pub record HasScript (form : Form) (bytes : List ℕ) (script : ScriptValue) : Type 0 where
  pub few : length bytes ≤ most_of form
  pub is_script : script_of (script_bytes form bytes) ≡ Ok script

-- an input of a check has a script, and no line that begins journals
pub record LacksJournals (bytes : List ℕ) : Type 0 where
  pub script : ScriptValue
  pub has_script : HasScript Check bytes script
  pub none : division_of bytes ≡ None

-- An input of a check has a script, and after it what is no text of journals of that script. This is the bad line, counted through
-- the whole input: so many lines stand before the journals, and it is this one of theirs.
pub record HasBadJournals (bytes : List ℕ) (line : ℕ) : Type 0 where
  pub script : ScriptValue
  pub division : Division
  pub own_line : ℕ
  pub has_script : HasScript Check bytes script
  pub divides : division_of bytes ≡ Some division
  pub bad : IsBadLine script (journal_part division bytes) own_line
  pub counted : line ≡ division.lines + own_line

-- This is wrong with an input. Of an input that is too large nothing else is asked; the script comes first, then the line that
-- begins journals, and then the journals. For an export nothing is asked of journals.
abbrev pub IsBad : Form → List ℕ → BadInput → Type 0
IsBad form bytes TooLarge = most_of form < length bytes
IsBad form bytes (BadScript fault) = (length bytes ≤ most_of form) × (script_of (script_bytes form bytes) ≡ Err fault)
IsBad Check bytes NoJournal = LacksJournals bytes
IsBad Check bytes (BadJournal line) = HasBadJournals bytes line
IsBad (Export play) bytes NoJournal = ⊥
IsBad (Export play) bytes (BadJournal line) = ⊥

-- the line that tells what is wrong: `line L: WHAT`, where line 0 stands for the whole
abbrev pub bad_line : BadInput → List ℕ
bad_line TooLarge = codes "line 0: script too large" ++ 10 ∷ []
bad_line (BadScript fault) = refusal_line (BadLine fault)
bad_line NoJournal = codes "line 0: no journal" ++ 10 ∷ []
bad_line (BadJournal line) = codes "line " ++ decimal line ++ (codes ": bad journal" ++ 10 ∷ [])
