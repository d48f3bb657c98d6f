-- The pair script that a text is, or its first bad line.
use Rattle.std.specs.Prelude.{◌≡◌, ℕ, ◌+◌, ◌<◌, List, [], ◌∷◌, length, Option, Some, None, Result, Ok, Err}
use Rattle.std.specs.Borrow.{Bor}
use Rattle.std.specs.Str.Lines.{lines}
use Rattle.machine.specs.Ranges.{usual}
use Rattle.pair_text.specs.Values.{PairScriptValue}
use Rattle.pair_text.specs.PairLines.{PairState, line_meaning}
use Rattle.pair_text.specs.Readers.{Fails}
use Rattle.pair_text.specs.declared.fault.PairError.{PairError}
use Rattle.pair_text.specs.declared.fault.PairError.TheVariants as errors
use Rattle.pair_text.specs.declared.stop.Stop.{Stop}
use Rattle.pair_text.specs.declared.stop.Stop.TheVariants as stops
use Rattle.pair_text.specs.declared.fault.PairFault.{PairFault}
use Rattle.pair_text.specs.declared.fault.PairFault.TheVariants.{BadTrace, Line}
use Rattle.pair_text.specs.declared.kind.PairKind.{PairKind}
use Rattle.pair_text.specs.declared.kind.Place.{Place}
use Rattle.pair_text.specs.declared.kind.Place.TheVariants as places
use Rattle.script_lines.specs.Tasks.{ids_of}
use Rattle.script_lines.specs.declared.fault.LineFault.TheVariants.{NoMachine}

-- the first bad line, and its first fault
pub record PairFaultAt : Type 0 where
  pub line : ℕ
  pub what : PairFault

-- before the first line
abbrev pub nothing_read : PairState
nothing_read = record { place = places.Start; machines = record { machine = usual; l2 = None }; tasks = []; ops = []; commands = 0; uses = 0 }

-- the script of all lines
abbrev pub script_in : PairState → PairScriptValue
script_in s = record { machines = s.machines; tasks = ids_of s.tasks; ops = s.ops }

-- the script after these many lines: there was a machine line, and no trace is open
abbrev pub finished_at : ℕ → Place → PairState → Result PairScriptValue PairFaultAt
finished_at n places.Start s = Err (record { line = n + 1; what = Line NoMachine })
finished_at n (places.Trace task cpu) s = Err (record { line = n + 1; what = BadTrace })
finished_at n place s = Ok (script_in s)

abbrev pub finished : ℕ → PairState → Result PairScriptValue PairFaultAt
finished n s = finished_at n s.place s

-- what follows a good line, or the fault of a bad one
abbrev pub after_line : ℕ → Result PairState PairFault → (PairState → Result PairScriptValue PairFaultAt) → Result PairScriptValue PairFaultAt
after_line n (Ok s) rest = rest s
after_line n (Err fault) rest = Err (record { line = n; what = fault })

-- the script of the lines after the first n
unfoldable pub reading_from : PairKind → ℕ → PairState → List (List ℕ) → Result PairScriptValue PairFaultAt
reading_from kind n s [] = finished n s
reading_from kind n s (line ∷ lines) = after_line (n + 1) (line_meaning kind s line) (λ s'. reading_from kind (n + 1) s' lines)

-- The pair script that a text is, or the first bad line with its first fault. Lines end with a newline, before which a carriage
-- return is dropped; the last line may lack it.
abbrev pub pair_script_of : PairKind → List ℕ → Result PairScriptValue PairFaultAt
pair_script_of kind text = reading_from kind 0 nothing_read (lines text)

-- (For proofs.) A function took in the first line of a text and left what stands after it, or there is no line; an error is the line's first
-- fault, or out of memory.
abbrev pub TakesLine : PairKind → Result (Option (Bor (List ℕ))) Stop → PairState → PairState → List ℕ → Type 0
TakesLine kind (Ok None) before after text = (lines text ≡ []) × (after ≡ before)
TakesLine kind (Ok (Some rest)) before after text =
    (line : List ℕ) × (lines text ≡ line ∷ lines rest.now) × (length rest.now < length text) × (line_meaning kind before line ≡ Ok after)
TakesLine kind (Err e) before after text = (line : List ℕ) × (rest : List ℕ) × (lines text ≡ line ∷ lines rest) × Fails e (line_meaning kind before line)

-- (For proofs.) an error of a line, with the line's number
abbrev pub located : Stop → ℕ → PairError
located (stops.Fault what) n = errors.Bad n what
located stops.NoMemory n = errors.NoMemory

-- (For proofs.) An error is this fault, or out of memory.
abbrev pub FailsAt : PairError → Result PairScriptValue PairFaultAt → Type 0
FailsAt errors.NoMemory script = Unit {0}
FailsAt (errors.Bad line what) script = script ≡ Err (record { line = line; what = what })

-- (For proofs.) What a function returned is this, unless memory ran out.
abbrev pub Reads : Result PairScriptValue PairError → Result PairScriptValue PairFaultAt → Type 0
Reads (Ok s) script = script ≡ Ok s
Reads (Err e) script = FailsAt e script
