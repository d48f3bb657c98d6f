-- What an export writes: a script, and after it the text of its journals.
use Rattle.std.specs.Prelude.{ℕ, ◌-◌, ◌==◌, Bool, false, if◌then◌else◌, List, [], ◌∷◌, ◌++◌, length, slice_get, Option, Some, None}
use Rattle.journal_text.specs.Lines.{journal_text}
use Rattle.machine.specs.declared.parameters.Parameters.{Parameters}
use Rattle.run_law.specs.Journals.{JournalsValue}

-- whether this byte is a newline
abbrev pub is_newline : Option ℕ → Bool
is_newline None = false
is_newline (Some byte) = byte == 10

-- whether the last byte is a newline
abbrev pub ends_line : List ℕ → Bool
ends_line bytes = is_newline (slice_get bytes (length bytes - 1))

-- these bytes, with a newline where the last line lacks it
abbrev pub with_newline : List ℕ → List ℕ
with_newline bytes = if ends_line bytes then bytes else (bytes ++ 10 ∷ [])

-- the bytes of a script, a newline where the last line lacks it, and the text of journals
abbrev pub export_text : List ℕ → Parameters → JournalsValue → List ℕ
export_text bytes machine journals = with_newline bytes ++ journal_text machine journals
