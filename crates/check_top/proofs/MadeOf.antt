-- What is made of a bad input, and of one that is not too large.
use Rattle.std.proofs.Common.{ℕ, ◌≤◌, List, length, inr}
use Rattle.call_rim.specs.Performing.{Performs}
use Rattle.call_rim.specs.Within.{RefusesWithin, ReportsWithin}
use Rattle.call_rim.specs.declared.performed.Performed.{Performed}
use Rattle.call_rim.specs.declared.performed.Performed.TheVariants.{Refused, Reported, NoMemory}
use Rattle.check_parts.specs.BadInputs.{IsBad}
use Rattle.check_parts.specs.declared.bad_input.BadInput.{BadInput}
use Rattle.check_parts.specs.declared.form.Form.{Form}
use Rattle.check_top.specs.Endings.{Refuses}
use Rattle.check_top.specs.Performances.{TellsBad}

-- the line of a bad input
pub Performs-bad : {T : Type 0} (form : Form) (reports : List ℕ → T → List ℕ → Type 0) (bytes : List ℕ) (bad : BadInput) (made : Performed T) → IsBad form bytes bad → TellsBad bad made → Performs (Refuses form) reports bytes made
Performs-bad form reports bytes bad (Refused line) is_bad told = record { bad = bad; is_bad = is_bad; told = told }
Performs-bad form reports bytes bad (Reported outcome report) is_bad told = absurd told
Performs-bad form reports bytes bad NoMemory is_bad told = tt

-- what is made of few bytes, as the rim has it
pub Performs-within : {T : Type 0} (most : ℕ) (refuses : List ℕ → List ℕ → Type 0) (reports : List ℕ → T → List ℕ → Type 0) (bytes : List ℕ) (made : Performed T) → length bytes ≤ most → Performs refuses reports bytes made
    → Performs (RefusesWithin most refuses) (ReportsWithin most reports) bytes made
Performs-within most refuses reports bytes (Refused line) few performs = inr (few, performs)
Performs-within most refuses reports bytes (Reported outcome report) few performs = (few, performs)
Performs-within most refuses reports bytes NoMemory few performs = tt
