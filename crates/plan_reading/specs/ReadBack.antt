-- That the canonical lines of writes read back.
-- (For functions and proofs: no promise of the program stands on it.)
use Rattle.std.specs.Prelude.{◌≡◌, ℕ, ◌+◌, ◌-◌, ◌<◌, ◌≤◌, Bool, ◌==◌, if◌then◌else◌, List, [], ◌∷◌, ◌++◌, length, slice_index, codes, Ok}
use Rattle.std.specs.List.{AllByRecursion, flat_map}
use Rattle.script_ops.specs.Canonical.{op_text}
use Rattle.script_ops.specs.Values.{ScriptValue, total_weight}
use Rattle.script_ops.specs.Weights.{weights_of}
use Rattle.script_ops.specs.declared.limits.TheConstants.{MOST_PHASES, MOST_WEIGHT}
use Rattle.script_ops.specs.declared.op.Op.{Op}
use Rattle.script_text.specs.Meaning.{line_meaning, with_op}
use Rattle.script_text.specs.Reading.{script_of}
use Rattle.script_text.specs.States.{ReaderState}
use Rattle.script_text.specs.declared.kind.LinePosition.TheVariants.{Thread}
use Rattle.plan_reading.specs.GroupWrites.{IsGroupDir, IsGroupWrite, IsMadeDir}

-- In a thread the line of a write is read as the write, among the same names.
abbrev pub WritesReadBack : Type 0
WritesReadBack = (s : ReaderState) (op : Op) → s.place ≡ Thread → IsGroupWrite (IsGroupDir s.names) op → line_meaning s (op_text s.names op) ≡ with_op s op

-- the script with one more phase, whose one thread has these ops
abbrev pub with_phase : ScriptValue → List Op → ScriptValue
with_phase script ops = record script { phases = script.phases ++ (record { order = []; threads = ops ∷ [] }) ∷ [] }

-- The script may have one more phase, and these ops too.
pub record HasRoom (script : ScriptValue) (ops : List Op) : Type 0 where
  pub phases : length script.phases < MOST_PHASES
  pub weight : total_weight script + weights_of script.machine ops ≤ MOST_WEIGHT

-- whether the last of these bytes is a newline
abbrev pub ends_line : List ℕ → Bool
ends_line text = slice_index text (length text - 1) == 10

-- a text, with the newline that its last line lacks
abbrev pub whole_lines : List ℕ → List ℕ
whole_lines text = text ++ (if ends_line text then [] else 10 ∷ [])

-- an op, as a line
abbrev pub op_line : List (List ℕ) → Op → List ℕ
op_line names op = op_text names op ++ codes "\n"

-- the text of a phase, whose one thread has these ops
abbrev pub phase_text : List (List ℕ) → List Op → List ℕ
phase_text names ops = codes "phase\nthread\n" ++ flat_map (op_line names) ops

-- A script, and then the text of such a phase, is the script with that phase.
abbrev pub PhasesReadBack : Type 0
PhasesReadBack = (text : List ℕ) (script : ScriptValue) (writes : List Op) → script_of text ≡ Ok script → AllByRecursion (IsGroupWrite (IsMadeDir script)) writes → HasRoom script writes
    → script_of (whole_lines text ++ phase_text script.names writes) ≡ Ok (with_phase script writes)
