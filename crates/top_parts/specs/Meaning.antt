-- What the bytes of an input mean: a script, or why they are none.
use Rattle.std.specs.Prelude.{◌≡◌, ℕ, nat_lt, if◌then◌else◌, List, [], ◌∷◌, ◌++◌, length, codes, decimal, Result, Ok, Err}
use Rattle.top_parts.specs.declared.input.InputError.{InputError}
use Rattle.top_parts.specs.declared.input.InputError.TheVariants as inputs
use Rattle.top_parts.specs.declared.refusal.Refusal.{Refusal}
use Rattle.top_parts.specs.declared.refusal.Refusal.TheVariants.{BadLine, TooLarge}
use Rattle.script_ops.specs.declared.limits.TheConstants.{MOST_SCRIPT_BYTES}
use Rattle.script_text.specs.Reading.{script_of}
use Rattle.script_ops.specs.Values.{ScriptValue}
use Rattle.script_lines.specs.declared.fault.LineFault.{LineFault}
use Rattle.script_lines.specs.declared.fault.LineFault.TheVariants as faults
use Rattle.script_lines.specs.declared.fault.ScriptFault.{ScriptFault}

-- a script, or its first bad line as the refusal
abbrev pub or_bad_line : Result ScriptValue ScriptFault → Result ScriptValue Refusal
or_bad_line (Ok script) = Ok script
or_bad_line (Err fault) = Err (BadLine fault)

-- What all bytes of an input mean. Too many bytes are refused before a line is looked at.
unfoldable pub meaning : List ℕ → Result ScriptValue Refusal
meaning bytes = if nat_lt MOST_SCRIPT_BYTES (length bytes) then Err TooLarge else or_bad_line (script_of bytes)

-- ---- the line of a refusal: `line L: WHAT`, where line 0 stands for the whole

-- the words for the fault of a line
abbrev pub fault_text : LineFault → List ℕ
fault_text faults.BadByte = codes "bad byte"
fault_text faults.NoMachine = codes "no machine line"
fault_text faults.UnknownWord = codes "unknown word"
fault_text faults.OutOfPlace = codes "out of place"
fault_text faults.BadMachine = codes "bad machine line"
fault_text faults.BadTasks = codes "bad tasks line"
fault_text faults.BadArgument = codes "bad argument"
fault_text faults.BadPath = codes "bad path"
fault_text faults.UnknownTask = codes "unknown task"
fault_text faults.BadEscape = codes "bad escape"
fault_text faults.TooLarge = codes "script too large"

-- the number of the bad line, from 1; 0 where the input is too large
abbrev pub line_number : Refusal → ℕ
line_number (BadLine fault) = fault.line
line_number TooLarge = 0

-- the words for a refusal
abbrev pub refusal_text : Refusal → List ℕ
refusal_text (BadLine fault) = fault_text fault.what
refusal_text TooLarge = codes "script too large"

-- the line of a refusal, with its newline
abbrev pub refusal_line : Refusal → List ℕ
refusal_line refusal = codes "line " ++ decimal (line_number refusal) ++ codes ": " ++ refusal_text refusal ++ 10 ∷ []

-- ---- what the reader of an input answers

-- (For proofs.) the answer is what these bytes mean, or memory ran out
abbrev pub MeansAs : Result ScriptValue InputError → Result ScriptValue Refusal → Type 0
MeansAs (Ok script) answer = answer ≡ Ok script
MeansAs (Err (inputs.Bad refusal)) answer = answer ≡ Err refusal
MeansAs (Err inputs.NoMemory) answer = Unit {0}
