-- Laws of the texts of journals.
-- (For functions and proofs: no promise of the program stands on it.)
use Rattle.std.specs.Prelude.{◌≡◌, ℕ, ◌⊎◌, List, Result, Ok, Err}
use Rattle.journal_text.specs.Readings.{IsBadLine, IsTextOf, Reads}
use Rattle.journal_text.specs.declared.fault.ReadError.{ReadError}
use Rattle.journal_text.specs.declared.fault.ReadError.TheVariants as errors
use Rattle.run_law.specs.Journals.{JournalsValue}
use Rattle.script_ops.specs.Values.{IsLawful, ScriptValue}

-- a text is that of one value's journals alone
abbrev pub TextsAreOfOneValue : Type 0
TextsAreOfOneValue = (script : ScriptValue) (text : List ℕ) (a b : JournalsValue) → IsLawful script → IsTextOf script text a → IsTextOf script text b → a ≡ b

-- a text has one bad line at most
abbrev pub BadLinesAreOne : Type 0
BadLinesAreOne = (script : ScriptValue) (text : List ℕ) (a b : ℕ) → IsBadLine script text a → IsBadLine script text b → a ≡ b

-- the text of journals reads back as these journals, if memory suffices
abbrev pub TextsReadBack : Type 0
TextsReadBack =
    (script : ScriptValue) (text : List ℕ) (j : JournalsValue) (result : Result JournalsValue ReadError)
    → IsLawful script → IsTextOf script text j → Reads script text result → (result ≡ Ok j) ⊎ (result ≡ Err errors.NoMemory)
