-- The journals that a text holds, or its first bad line.
use Rattle.std.specs.Prelude.{◌≡◌, ℕ, ◌+◌, ◌-◌, ◌≤◌, ◌==◌, List, ◌++◌, length, take, Result, Ok, Err}
use Rattle.std.specs.List.{slice_split}
use Rattle.journal_text.specs.Lines.{journal_lines, journal_text}
use Rattle.journal_text.specs.Writable.{IsWritable}
use Rattle.journal_text.specs.declared.fault.ReadError.{ReadError}
use Rattle.journal_text.specs.declared.fault.ReadError.TheVariants as errors
use Rattle.run_law.specs.Journals.{JournalsValue}
use Rattle.script_ops.specs.Values.{ScriptValue}

-- the parts of a text between its newlines
abbrev pub parts_of : List ℕ → List (List ℕ)
parts_of text = slice_split (λ b. b == 10) text

-- the lines of a text that end with a newline
unfoldable pub whole_lines : List ℕ → List (List ℕ)
whole_lines text = take (length (parts_of text) - 1) (parts_of text)

-- these are the journals of a text: they have a text as those of the script, and it is this one
pub record IsTextOf (script : ScriptValue) (text : List ℕ) (j : JournalsValue) : Type 0 where
  pub writable : IsWritable script j
  pub same : text ≡ journal_text script.machine j

-- a text of journals of the script begins with these lines
pub record Begins (script : ScriptValue) (lines : List (List ℕ)) : Type 0 where
  pub journals : JournalsValue
  pub rest : List (List ℕ)
  pub writable : IsWritable script journals
  pub whole : journal_lines script.machine journals ≡ lines ++ rest

-- The bad line of a text that holds no journals of the script, counted from 1: the first such that no text of journals begins with
-- the lines up to it, or the line after all whole lines, where the text is unfinished or goes on after its end.
pub record IsBadLine (script : ScriptValue) (text : List ℕ) (n : ℕ) : Type 0 where
  pub no_journals : (j : JournalsValue) → IsTextOf script text j → ⊥
  pub from_one : 1 ≤ n
  pub to_last : n ≤ length (whole_lines text) + 1
  pub before : Begins script (take (n - 1) (whole_lines text))
  pub bad : n ≤ length (whole_lines text) → Begins script (take n (whole_lines text)) → ⊥

-- (For proofs.) the result is the journals of a text, or its bad line; out of memory says nothing of it
abbrev pub Reads : ScriptValue → List ℕ → Result JournalsValue ReadError → Type 0
Reads script text (Ok j) = IsTextOf script text j
Reads script text (Err (errors.Bad line)) = IsBadLine script text line
Reads script text (Err errors.NoMemory) = Unit {0}
