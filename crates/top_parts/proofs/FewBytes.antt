-- What bytes mean that are no more than a script may have.
use Rattle.std.proofs.Common.{◌≡◌, ℕ, ◌≤◌, List, length, Result, Ok, Err, IfOk, refl, sym, ap, ◌∙◌}
use Rattle.std.proofs.lemmas.Bool.{le-ltb}
use Rattle.script_lines.specs.declared.fault.ScriptFault.{ScriptFault}
use Rattle.script_ops.specs.Values.{ScriptValue}
use Rattle.script_ops.specs.declared.limits.TheConstants.{MOST_SCRIPT_BYTES}
use Rattle.script_text.specs.Reading.{script_of}
use Rattle.top_parts.specs.Meaning.{meaning}
use Rattle.top_parts.specs.declared.refusal.Refusal.TheVariants.{BadLine}

-- they are a script
pub meaning-script : (bytes : List ℕ) (script : ScriptValue) → length bytes ≤ MOST_SCRIPT_BYTES → script_of bytes ≡ Ok script → meaning bytes ≡ Ok script
unfolding meaning
meaning-script bytes script few good = rw (le-ltb MOST_SCRIPT_BYTES (length bytes) few, good) refl

-- they are no script
pub meaning-bad_line : (bytes : List ℕ) (fault : ScriptFault) → length bytes ≤ MOST_SCRIPT_BYTES → script_of bytes ≡ Err fault → meaning bytes ≡ Err (BadLine fault)
unfolding meaning
meaning-bad_line bytes fault few bad = rw (le-ltb MOST_SCRIPT_BYTES (length bytes) few, bad) refl

-- a script that was made without its text
pub IfOk-meaning : {E : Type 0} (text : List ℕ) (script : ScriptValue) (result : Result ScriptValue E) → meaning text ≡ Ok script → IfOk result (λ made. made ≡ script) → IfOk result (λ made. meaning text ≡ Ok made)
IfOk-meaning text script (Ok made) means is = means ∙ ap Ok (sym is)
IfOk-meaning text script (Err error) means is = tt
