-- The script that a text is, or its first bad line.
use Rattle.std.specs.Prelude.{◌≡◌, ℕ, ◌+◌, List, [], ◌∷◌, Result, Ok, Err, if◌then◌else◌}
use Rattle.std.specs.Str.Lines.{lines}
use Rattle.machine.specs.Ranges.{usual}
use Rattle.script_lines.specs.declared.fault.LineFault.{LineFault}
use Rattle.script_lines.specs.declared.fault.LineFault.TheVariants.{NoMachine}
use Rattle.script_lines.specs.declared.fault.LineError.{LineError}
use Rattle.script_lines.specs.declared.fault.LineError.TheVariants as line_errors
use Rattle.script_lines.specs.declared.fault.ScriptFault.{ScriptFault}
use Rattle.script_lines.specs.declared.fault.ScriptError.{ScriptError}
use Rattle.script_lines.specs.declared.fault.ScriptError.TheVariants as errors
use Rattle.script_text.specs.declared.kind.LinePosition.TheVariants.{Start}
use Rattle.script_ops.specs.Values.{ScriptValue}
use Rattle.script_text.specs.States.{ReaderState, close_phase, is_start}
use Rattle.script_text.specs.Meaning.{line_meaning}
use Rattle.script_lines.specs.Tasks.{ids_of}

-- the state before the first line
abbrev pub nothing_read : ReaderState
nothing_read = record { place = Start; machine = usual; tasks = []; names = []; phases = []; order = []; threads = []; ops = []; weight = 0 }

-- the script of a state after all lines
abbrev pub script_in : ReaderState → ScriptValue
script_in s = record { machine = s.machine; tasks = ids_of s.tasks; names = s.names; phases = s.phases }

-- the script after so many lines, or NoMachine at the next line where no line named a machine
abbrev pub finished : ℕ → ReaderState → Result ScriptValue ScriptFault
finished n s = if is_start s.place then Err (record { line = n + 1; what = NoMachine }) else Ok (script_in (close_phase s))

-- what follows a good line, or the fault of a bad one
abbrev pub after_line : ℕ → Result ReaderState LineFault → (ReaderState → Result ScriptValue ScriptFault) → Result ScriptValue ScriptFault
after_line n (Ok s) rest = rest s
after_line n (Err fault) rest = Err (record { line = n; what = fault })

-- the script of the lines after the first n
unfoldable pub reading_from : ℕ → ReaderState → List (List ℕ) → Result ScriptValue ScriptFault
reading_from n s [] = finished n s
reading_from n s (line ∷ lines) = after_line (n + 1) (line_meaning s line) (λ s'. reading_from (n + 1) s' lines)

-- The script that a text is, or the first bad line with its first fault. Lines end with a newline, before which a carriage
-- return is dropped; the last line may lack it.
abbrev pub script_of : List ℕ → Result ScriptValue ScriptFault
script_of text = reading_from 0 nothing_read (lines text)

-- (For proofs.) an error of a line, with the line's number
abbrev pub located : LineError → ℕ → ScriptError
located (line_errors.Fault what) n = errors.Bad (record { line = n; what = what })
located line_errors.NoMemory n = errors.NoMemory

-- (For proofs.) The error is the fault of this reading, or out of memory.
abbrev pub Fails : ScriptError → Result ScriptValue ScriptFault → Type 0
Fails errors.NoMemory script = Unit {0}
Fails (errors.Bad fault) script = script ≡ Err fault

-- (For proofs.) The result is this reading, or memory ran out.
abbrev pub Reads : Result ScriptValue ScriptError → Result ScriptValue ScriptFault → Type 0
Reads (Ok s) script = script ≡ Ok s
Reads (Err e) script = Fails e script
