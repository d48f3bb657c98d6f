-- What is made of an input: its refusal, or the report of its run.
-- (For functions and proofs: no promise of the program stands on it.)
use Rattle.std.specs.Prelude.{◌≡◌, ℕ, List, Err}
use Rattle.call_rim.specs.declared.performed.Performed.{Performed}
use Rattle.call_rim.specs.declared.performed.Performed.TheVariants.{Refused, Reported, NoMemory}
use Rattle.resctrl_top.specs.Endings.{IsPlayed}
use Rattle.run_law.specs.Journals.{JournalsValue}
use Rattle.top_parts.specs.Meaning.{meaning, refusal_line}
use Rattle.top_parts.specs.declared.form.Form.{Form}
use Rattle.top_parts.specs.declared.refusal.Refusal.{Refusal}

-- the bytes are no script, and this is the line that says why
pub record RefusesBytes (bytes line : List ℕ) : Type 0 where
  pub refusal : Refusal
  pub no_script : meaning bytes ≡ Err refusal
  pub is_line : line ≡ refusal_line refusal

-- what is made of bytes that are a script: the report of a run, unless memory ran out
abbrev pub Plays : Form → List ℕ → Performed JournalsValue → Type 0
Plays form bytes (Refused line) = ⊥
Plays form bytes (Reported run report) = IsPlayed form bytes run report.items
Plays form bytes NoMemory = Unit {0}
