-- A law of bad inputs.
-- (For functions and proofs: no promise of the program stands on it.)
use Rattle.std.specs.Prelude.{◌≡◌, ℕ, List}
use Rattle.check_parts.specs.BadInputs.{IsBad}
use Rattle.check_parts.specs.declared.bad_input.BadInput.{BadInput}
use Rattle.check_parts.specs.declared.form.Form.{Form}

-- one thing is wrong with an input at most
abbrev pub BadInputsAreOne : Type 0
BadInputsAreOne = (form : Form) (bytes : List ℕ) (a b : BadInput) → IsBad form bytes a → IsBad form bytes b → a ≡ b
