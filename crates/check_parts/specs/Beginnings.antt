-- What is wrong with an input whatever follows its beginning.
-- (For functions and proofs: no promise of the program stands on it.)
use Rattle.std.specs.Prelude.{◌≡◌, ℕ, ◌≤◌, ◌==◌, List, ◌++◌, Option, Some, None, Err, count_by}
use Rattle.check_parts.specs.BadInputs.{script_bytes}
use Rattle.check_parts.specs.declared.form.Form.TheVariants.{Check}
use Rattle.script_lines.specs.declared.fault.ScriptFault.{ScriptFault}
use Rattle.script_text.specs.Reading.{script_of}

-- the script of every input that begins so has this fault
abbrev pub HasFault : List ℕ → ScriptFault → Type 0
HasFault beginning fault = (more : List ℕ) → script_of (script_bytes Check (beginning ++ more)) ≡ Err fault

-- the same of a beginning that has a fault, if one was found
abbrev pub FindsFault : List ℕ → Option ScriptFault → Type 0
FindsFault beginning (Some fault) = HasFault beginning fault
FindsFault beginning None = Unit {0}

-- a text has this fault, in one of its lines, if one was found
abbrev pub FindsBadLine : List ℕ → Option ScriptFault → Type 0
FindsBadLine text (Some fault) = (script_of text ≡ Err fault) × (fault.line ≤ count_by (λ b. b == 10) text)
FindsBadLine text None = Unit {0}

-- a text has this fault, if one was found
abbrev pub FindsAnyFault : List ℕ → Option ScriptFault → Type 0
FindsAnyFault text (Some fault) = script_of text ≡ Err fault
FindsAnyFault text None = Unit {0}
