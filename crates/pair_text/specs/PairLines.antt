-- What a line of a pair script means, after the lines before it.
use Rattle.std.specs.Prelude.{ℕ, ◌+◌, ◌*◌, ◌/◌, Bool, false, not, ◌&&◌, ◌==◌, nat_lt, List, [], ◌∷◌, ◌++◌, length, map, codes, Option, Some, None, Result, Ok, Err, if◌then◌else◌}
use Rattle.std.specs.List.{list_any, range_with_len}
use Rattle.lackey_text.specs.Lines.{line_of}
use Rattle.lackey_text.specs.Uses.{uses_of}
use Rattle.lackey_text.specs.declared.uses.LineUse.{LineUse}
use Rattle.lackey_text.specs.declared.line.LackeyLine.{LackeyLine}
use Rattle.line_words.specs.Lines.{behind_word, is_bad, is_comment, words}
use Rattle.pair_text.specs.Values.{Machines}
use Rattle.pair_text.specs.declared.file.PairFile.{PairFile}
use Rattle.pair_text.specs.declared.op.PairOp.{PairOp}
use Rattle.pair_text.specs.declared.op.PairOp.TheVariants as ops
use Rattle.pair_text.specs.PairKeys.{machines_of}
use Rattle.pair_text.specs.PairPaths.{file_at, group_at, or_long}
use Rattle.pair_text.specs.declared.fault.PairFault.{PairFault}
use Rattle.pair_text.specs.declared.fault.PairFault.TheVariants.{BadTrace, Line}
use Rattle.pair_text.specs.declared.kind.Kind.{Kind}
use Rattle.pair_text.specs.declared.kind.Kind.TheVariants as kinds
use Rattle.pair_text.specs.declared.kind.PairKind.{PairKind}
use Rattle.pair_text.specs.declared.kind.Place.{Place}
use Rattle.pair_text.specs.declared.kind.Place.TheVariants as places
use Rattle.pair_text.specs.declared.limits.TheConstants.{MOST_COMMANDS, MOST_USES}
use Rattle.pair_text.specs.Kinds.{is_start, may_stand, pair_kind_of}
use Rattle.rc_base.specs.Faults.{◌>>=◌}
use Rattle.rc_base.specs.Texts.{is_text}
use Rattle.script_lines.specs.Arguments.{access_of, first_of, only, sweep_of, trace_of}
use Rattle.script_lines.specs.Escapes.{text_behind, unescaped}
use Rattle.script_lines.specs.Tasks.{count_of, declared, task_of}
use Rattle.script_lines.specs.declared.arguments.Sweep.{Sweep}
use Rattle.pair_text.specs.declared.stop.Stop.{Stop}
use Rattle.pair_text.specs.declared.stop.Stop.TheVariants as stops
use Rattle.script_lines.specs.declared.fault.LineError.{LineError}
use Rattle.script_lines.specs.declared.fault.LineError.TheVariants as line_errors
use Rattle.script_lines.specs.declared.fault.LineFault.{LineFault}
use Rattle.script_lines.specs.declared.fault.LineFault.TheVariants.{BadByte, NoMachine, UnknownWord, OutOfPlace, BadMachine, BadTasks, BadArgument, BadPath, UnknownTask, BadEscape, TooLarge}
use Rattle.script_lines.specs.declared.tasks.TaskRange.{TaskRange}
use Rattle.script_ops.specs.declared.limits.TheConstants.{MOST_TASKS, MOST_TEXT_BYTES}

-- ---- how far a reader has come

-- The place of the next line, and what the lines so far say; how many commands and uses are among the ops.
pub record PairState : Type 0 where
  pub place : Place
  pub machines : Machines
  pub tasks : List TaskRange
  pub ops : List PairOp
  pub commands : ℕ
  pub uses : ℕ

-- ---- parts of a meaning

-- a line's fault, where a test holds
abbrev pub fault_if : Bool → LineFault → Result (Unit {0}) PairFault
fault_if b fault = if b then Err (Line fault) else Ok tt

-- a value, or a line's fault where there is none
abbrev pub or_fault : {A : Type 0} → Option A → LineFault → Result A PairFault
or_fault None fault = Err (Line fault)
or_fault (Some x) fault = Ok x

-- one command more
abbrev pub with_command : PairState → PairOp → Result PairState PairFault
with_command s op = if nat_lt MOST_COMMANDS (s.commands + 1) then Err (Line TooLarge) else Ok (record s { place = places.Body; ops = s.ops ++ op ∷ []; commands = s.commands + 1 })

-- some uses more
abbrev pub with_uses : PairState → ℕ → List PairOp → Result PairState PairFault
with_uses s count uses = if nat_lt MOST_USES (s.uses + count) then Err (Line TooLarge) else Ok (record s { ops = s.ops ++ uses; uses = s.uses + count })

-- after the head
abbrev pub in_body : PairState → PairState
in_body s = record s { place = places.Body }

-- the group that a line's only argument names
unfoldable pub group_alone : List ℕ → Result (List ℕ) PairFault
group_alone rest = do
  word ← or_fault (only (words rest)) BadArgument
  found ← or_fault (or_long group_at word) BadPath
  or_fault found TooLarge

-- the file that a line's only argument names
unfoldable pub file_alone : List ℕ → Result PairFile PairFault
file_alone rest = do
  word ← or_fault (only (words rest)) BadArgument
  found ← or_fault (or_long file_at word) BadPath
  or_fault found TooLarge

-- the i-th use of a sweep
abbrev pub use_at : ℕ → Sweep → ℕ → PairOp
use_at task w i = ops.Use task w.first.cpu ((w.first.at + i * w.stride) / 64) false

-- a use of a line by a task on a CPU
abbrev pub use_in : ℕ → ℕ → LineUse → PairOp
use_in task cpu u = ops.Use task cpu u.line u.code

-- ---- what a line of each kind means, by what stands after its first word

unfoldable pub means : PairKind → Kind → PairState → List ℕ → Result PairState PairFault
means kind kinds.Machine s rest = do
  m ← or_fault (machines_of kind (words rest)) BadMachine
  Ok (record s { place = places.Head; machines = m })
means kind kinds.Tasks s rest = do
  tasks ← or_fault (declared s.tasks (words rest)) BadTasks
  a ← fault_if (nat_lt MOST_TASKS (count_of tasks)) TooLarge
  Ok (record s { place = places.Body; tasks = tasks })
means kind kinds.Mkdir s rest = do
  name ← group_alone rest
  with_command s (ops.Mkdir name)
means kind kinds.Rmdir s rest = do
  name ← group_alone rest
  with_command s (ops.Rmdir name)
means kind kinds.Write s rest = do
  word ← or_fault (first_of (words rest)) BadArgument
  found ← or_fault (or_long file_at word) BadPath
  text ← or_fault (unescaped (text_behind rest)) BadEscape
  a ← fault_if (nat_lt MOST_TEXT_BYTES (length text)) TooLarge
  file ← or_fault found TooLarge
  with_command s (ops.Write file text)
means kind kinds.Read s rest = do
  file ← file_alone rest
  with_command s (ops.Read file)
means kind kinds.Flush s rest = do
  a ← fault_if (not (length (words rest) == 0)) BadArgument
  with_command s ops.Flush
means kind kinds.Trace s rest = do
  u ← or_fault (trace_of s.machines.machine (words rest)) BadArgument
  task ← or_fault (task_of s.tasks u.task) UnknownTask
  Ok (record s { place = places.Trace task u.cpu })
means kind kinds.Access s rest = do
  u ← or_fault (access_of s.machines.machine (words rest)) BadArgument
  task ← or_fault (task_of s.tasks u.task) UnknownTask
  with_uses (in_body s) 1 (ops.Use task u.cpu (u.at / 64) false ∷ [])
means kind kinds.Sweep s rest = do
  w ← or_fault (sweep_of s.machines.machine (words rest)) BadArgument
  task ← or_fault (task_of s.tasks w.first.task) UnknownTask
  with_uses (in_body s) w.count (map (use_at task w) (range_with_len 0 w.count))

-- ---- lines

-- what a line means that begins with this word
unfoldable pub word_means : PairKind → PairState → List ℕ → List ℕ → Result PairState PairFault
word_means kind s word rest = do
  a ← fault_if (is_start s.place && not (is_text word (codes "machine"))) NoMachine
  line ← or_fault (pair_kind_of kind word) UnknownWord
  b ← fault_if (not (may_stand line s.place)) OutOfPlace
  means kind line s rest

-- A line without words says nothing.
abbrev pub said_by : PairKind → PairState → List (List ℕ) → List ℕ → Result PairState PairFault
said_by kind s [] rest = Ok s
said_by kind s (word ∷ words) rest = word_means kind s word rest

-- whether a line's only word is `end`
abbrev pub is_end : List (List ℕ) → Bool
is_end (word ∷ []) = is_text word (codes "end")
is_end words = false

-- the uses of a line of a trace
abbrev pub traced : Option LackeyLine → Result (List LineUse) PairFault
traced None = Err BadTrace
traced (Some said) = Ok (uses_of said)

-- what a line of a trace means
unfoldable pub trace_line : PairState → ℕ → ℕ → List ℕ → Result PairState PairFault
trace_line s task cpu line =
    if is_end (words line) then Ok (in_body s) else
    (traced (line_of line) >>= λ uses. with_uses s (length uses) (map (use_in task cpu) uses))

-- outside a trace a comment says nothing
abbrev pub plain_line : PairKind → PairState → List ℕ → Result PairState PairFault
plain_line kind s line = if is_comment line then Ok s else said_by kind s (words line) (behind_word line)

-- what a line without bad bytes means, by its place
abbrev pub placed_line : PairKind → Place → PairState → List ℕ → Result PairState PairFault
placed_line kind (places.Trace task cpu) s line = trace_line s task cpu line
placed_line kind place s line = plain_line kind s line

-- what a line means after these, or its first fault
unfoldable pub line_meaning : PairKind → PairState → List ℕ → Result PairState PairFault
line_meaning kind s line = do
  a ← fault_if (list_any is_bad line) BadByte
  placed_line kind s.place s line

-- (For proofs.) an error of a line of any script
abbrev pub stopped : LineError → Stop
stopped (line_errors.Fault f) = stops.Fault (Line f)
stopped line_errors.NoMemory = stops.NoMemory
