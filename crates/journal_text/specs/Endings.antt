-- What a reader of a text of journals answers after all whole lines of it.
-- (For functions and proofs: no promise of the program stands on it.)
use Rattle.std.specs.Prelude.{◌≡◌, ℕ, ◌+◌, List, [], Result, Ok, Err, MatchResult}
use Rattle.journal_text.specs.Readings.{IsBadLine, IsTextOf}
use Rattle.journal_text.specs.States.{PartsRead, journals_in}
use Rattle.journal_text.specs.declared.fault.ReadError.{ReadError}
use Rattle.journal_text.specs.declared.fault.ReadError.TheVariants as errors
use Rattle.journal_text.specs.declared.line_position.LinePosition.{LinePosition}
use Rattle.journal_text.specs.declared.line_position.LinePosition.TheVariants.{Over}
use Rattle.script_ops.specs.Values.{ScriptValue}

-- what was kept, at the end of the text; else the line after so many
abbrev pub Finishes : {K : Type 0} → K → LinePosition → ℕ → List ℕ → Result K ReadError → Type 0
Finishes keeper position lines left result = MatchResult result
    (λ kept. (kept ≡ keeper) × (position ≡ Over) × (left ≡ []))
    (λ error. (error ≡ errors.Bad (lines + 1)) × (position ≡ Over → left ≡ [] → ⊥))

-- what was kept of the journals of a text, or its bad line; out of memory says nothing of it
abbrev pub ReadsWith : {K : Type 0} → (K → PartsRead → Type 0) → ScriptValue → List ℕ → Result K ReadError → Type 0
ReadsWith Keeps script text (Ok kept) = (parts : PartsRead) × Keeps kept parts × IsTextOf script text (journals_in parts)
ReadsWith Keeps script text (Err (errors.Bad line)) = IsBadLine script text line
ReadsWith Keeps script text (Err errors.NoMemory) = Unit {0}
