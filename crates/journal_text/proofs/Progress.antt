-- How far the reading of a text has come.
use Rattle.std.proofs.Common.{◌≡◌, ℕ, ◌+◌, ◌<◌, ◌≤◌, true, false, List, [], ◌∷◌, ◌++◌, length, Result, Ok, Err, sym, subst, arith}
use Rattle.std.specs.List.{after_first, before_first, list_any}
use Rattle.std.proofs.lemmas.List.{length_push}
use Rattle.journal_text.proofs.Endings.{IsBadLine-refused, IsBadLine-unfinished, IsTextOf-over}
use Rattle.journal_text.proofs.TextLines.{HasPassed, HasPassed-line, newline}
use Rattle.journal_text.specs.Endings.{Finishes, ReadsWith}
use Rattle.journal_text.specs.LinePositions.{Leads}
use Rattle.journal_text.specs.Readings.{IsBadLine, Reads}
use Rattle.journal_text.specs.States.{HasRead, Holds, IsThere, PartsRead, TakesLine, state_at}
use Rattle.journal_text.specs.declared.fault.ReadError.{ReadError}
use Rattle.journal_text.specs.declared.fault.ReadError.TheVariants as errors
use Rattle.journal_text.specs.declared.line_position.LinePosition.{LinePosition}
use Rattle.journal_text.specs.declared.line_position.LinePosition.TheVariants.{Start, InTree, InSlice, Over}
use Rattle.script_ops.specs.Values.{IsLawful, ScriptValue}

-- so many lines of the text were read, this of it is left, and what is kept is kept of what was read
pub record HasComeTo (script : ScriptValue) (text : List ℕ) (number : ℕ) (left : List ℕ) (position : LinePosition) (Keeps : PartsRead → Type 0) : Type 0 where
  pub lines : List (List ℕ)
  pub counted : number ≡ length lines
  pub few : number + length left ≤ length text
  pub passed : HasPassed text lines left
  pub parts : PartsRead
  pub keeps : Keeps parts
  pub read : HasRead script lines (state_at position parts)

-- a slice that is being read is one of the machine
IsThere-held : (script : ScriptValue) (position : LinePosition) (lines : List (List ℕ)) (parts : PartsRead) → Holds script position lines parts → IsThere script position
IsThere-held script Start lines parts held = tt
IsThere-held script InTree lines parts held = tt
IsThere-held script (InSlice slice left) lines parts held = held.there
IsThere-held script Over lines parts held = tt

module _ (script : ScriptValue) (text : List ℕ) (number : ℕ) (left : List ℕ) (position : LinePosition) (Keeps : PartsRead → Type 0) (come : HasComeTo script text number left position Keeps) where
  pub IsThere-come : IsThere script position
  IsThere-come = IsThere-held script position come.lines come.parts come.read.held

  -- one more line
  pub HasComeTo-line : (line rest : List ℕ) (to : LinePosition) (New : PartsRead → Type 0) → list_any newline left ≡ true → line ≡ before_first newline left → rest ≡ after_first newline left → length rest < length left → TakesLine script line position Keeps to New true → HasComeTo script text (number + 1) rest to New
  HasComeTo-line line rest to New any front back shorter taken =
      let took = taken come.lines come.parts come.keeps come.read in
      record {
        lines = come.lines ++ line ∷ [];
        counted = omega (arith, come.counted, length_push come.lines line);
        few = omega (arith, come.few, shorter);
        passed = rw (front, back) (HasPassed-line text come.lines left come.passed any);
        parts = took.0;
        keeps = took.1;
        read = took.2;
      }

  module _ (lawful : IsLawful script) where
    -- a line that may not stand
    pub IsBadLine-not_taken : (line : List ℕ) (to : LinePosition) (New : PartsRead → Type 0) → list_any newline left ≡ true → line ≡ before_first newline left → TakesLine script line position Keeps to New false → IsBadLine script text (number + 1)
    IsBadLine-not_taken line to New any front never =
        subst (λ (n : ℕ). IsBadLine script text (n + 1)) (sym come.counted)
        (IsBadLine-refused script lawful text come.lines left (state_at position come.parts) come.passed come.read any (subst (λ (l : List ℕ). (next : LinePosition) → Leads script position l next → ⊥) front never))

    -- the line after the whole lines, where the text is unfinished or goes on
    IsBadLine-left : list_any newline left ≡ false → (position ≡ Over → left ≡ [] → ⊥) → IsBadLine script text (number + 1)
    IsBadLine-left none never = subst (λ (n : ℕ). IsBadLine script text (n + 1)) (sym come.counted) (IsBadLine-unfinished script lawful text come.lines left (state_at position come.parts) come.passed come.read none never)

-- no line is left
pub ReadsWith-finished : {K : Type 0} (Keeps : K → PartsRead → Type 0) (script : ScriptValue) (text : List ℕ) (number : ℕ) (left : List ℕ) (position : LinePosition) (keeper : K)
    → HasComeTo script text number left position (Keeps keeper) → IsLawful script → (result : Result K ReadError) → list_any newline left ≡ false → Finishes keeper position number left result → ReadsWith Keeps script text result
ReadsWith-finished Keeps script text number left position keeper come lawful (Ok kept) none ended = (
  come.parts,
  subst (λ k. Keeps k come.parts) (sym ended.0) come.keeps,
  IsTextOf-over script text come.lines left (state_at position come.parts) come.passed come.read ended.1 ended.2,
)
ReadsWith-finished Keeps script text number left position keeper come lawful (Err (errors.Bad line)) none ended =
    let is = ended.0 in
    let same : line ≡ number + 1 = cc in
    subst (IsBadLine script text) (sym same) (IsBadLine-left script text number left position (Keeps keeper) come lawful none ended.1)
ReadsWith-finished Keeps script text number left position keeper come lawful (Err errors.NoMemory) none ended = tt

-- an error says the same of the text, whatever was kept
pub Reads-error : {K : Type 0} (Keeps : K → PartsRead → Type 0) (script : ScriptValue) (text : List ℕ) (error : ReadError) → ReadsWith Keeps script text (Err error) → Reads script text (Err error)
Reads-error Keeps script text (errors.Bad line) bad = bad
Reads-error Keeps script text errors.NoMemory none = tt
