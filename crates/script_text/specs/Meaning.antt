-- What a line means, after the lines before it.
use Rattle.std.specs.Prelude.{◌≡◌, ℕ, ◌+◌, ◌*◌, not, ◌&&◌, ◌==◌, nat_lt, nat_le, List, [], ◌∷◌, ◌++◌, length, map, codes, Option, Result, Ok, Err, if◌then◌else◌}
use Rattle.std.specs.List.{list_any, range_with_len}
use Rattle.std.specs.Option.{ok_or}
use Rattle.rc_base.specs.Faults.{◌>>=◌, fault_if}
use Rattle.rc_base.specs.Texts.{is_text}
use Rattle.path_names.specs.declared.path_ref.PathRef.{PathRef}
use Rattle.script_lines.specs.declared.fault.LineFault.{LineFault}
use Rattle.script_lines.specs.declared.fault.LineFault.TheVariants.{BadByte, NoMachine, UnknownWord, OutOfPlace, BadMachine, BadTasks, BadArgument, BadPath, UnknownTask, BadEscape, TooLarge}
use Rattle.script_lines.specs.declared.fault.LineError.{LineError}
use Rattle.script_lines.specs.declared.fault.LineError.TheVariants as errors
use Rattle.script_lines.specs.declared.arguments.Sweep.{Sweep}
use Rattle.script_ops.specs.declared.op.Op.{Op}
use Rattle.script_ops.specs.declared.op.Op.TheVariants as ops
use Rattle.script_text.specs.declared.kind.LinePosition.TheVariants as places
use Rattle.script_text.specs.declared.kind.Kind.{Kind}
use Rattle.script_text.specs.declared.kind.Kind.TheVariants as kinds
use Rattle.line_words.specs.Lines.{is_bad, is_comment, words, behind_word}
use Rattle.script_text.specs.States.{ReaderState, close_thread, close_phase, is_start}
use Rattle.script_lines.specs.Arguments.{access_of, flush_of, sweep_of, touch_of, drop_line_of, drop_region_of, has_path, order_of, only, first_of}
use Rattle.script_lines.specs.Escapes.{unescaped, text_behind}
use Rattle.script_lines.specs.Keys.{machine_of}
use Rattle.script_text.specs.Kinds.{kind_of, may_stand}
use Rattle.script_lines.specs.Paths.{Named, named}
use Rattle.script_lines.specs.Tasks.{declared, task_of, count_of}
use Rattle.script_ops.specs.Weights.{weight_of}
use Rattle.script_ops.specs.declared.limits.TheConstants.{MOST_WEIGHT, MOST_TASKS, MOST_TEXT_BYTES, MOST_ORDER, MOST_PHASES, MOST_PHASE_THREADS}

-- ---- parts of a meaning

-- ops at the end of the open thread, or TooLarge where they weigh too much
abbrev pub with_ops : ReaderState → ℕ → List Op → Result ReaderState LineFault
with_ops s weight ops = if nat_lt MOST_WEIGHT (s.weight + weight) then Err TooLarge else Ok (record s { ops = s.ops ++ ops; weight = s.weight + weight })

-- one op
abbrev pub with_op : ReaderState → Op → Result ReaderState LineFault
with_op s op = with_ops s (weight_of s.machine op) (op ∷ [])

-- the state with these names
abbrev pub with_names : ReaderState → List (List ℕ) → ReaderState
with_names s names = record s { names = names }

-- what a word names here
abbrev pub named_in : ReaderState → List ℕ → Option (Option Named)
named_in s word = named s.machine.domains s.names word

-- what a line's only argument names
unfoldable pub path_alone : ReaderState → List ℕ → Result Named LineFault
path_alone s rest = do
  word ← ok_or (only (words rest)) BadArgument
  found ← ok_or (named_in s word) BadPath
  ok_or found TooLarge

-- the i-th access of a sweep
abbrev pub access_at : ℕ → Sweep → ℕ → Op
access_at task w i = ops.Access task w.first.cpu (w.first.at + i * w.stride)

-- the accesses of a sweep
abbrev pub sweep_ops : ℕ → Sweep → List Op
sweep_ops task w = map (access_at task w) (range_with_len 0 w.count)

-- `clflush ADDR`: flushes the line of an address
unfoldable pub drop_line : ReaderState → List ℕ → Result ReaderState LineFault
drop_line s rest = do
  addr ← ok_or (drop_line_of (words rest)) BadArgument
  with_op s (ops.DropLine addr)

-- `clflush PATH OFFSET`: flushes the line of a byte of a group's locked region
unfoldable pub drop_region : ReaderState → List ℕ → Result ReaderState LineFault
drop_region s rest = do
  t ← ok_or (drop_region_of (words rest)) BadArgument
  found ← ok_or (named_in s t.0) BadPath
  p ← ok_or found TooLarge
  with_op (with_names s p.1) (ops.DropRegion p.0 t.1)

-- ---- what a line of each kind means, by what stands after its first word

-- the state after a line of this kind, or its first fault
unfoldable pub means : Kind → ReaderState → List ℕ → Result ReaderState LineFault
means kinds.Machine s rest = do
  m ← ok_or (machine_of (words rest)) BadMachine
  Ok (record s { place = places.Head; machine = m })
means kinds.Tasks s rest = do
  tasks ← ok_or (declared s.tasks (words rest)) BadTasks
  a ← fault_if (nat_lt MOST_TASKS (count_of tasks)) TooLarge
  Ok (record s { tasks = tasks })
means kinds.Phase s rest = do
  a ← fault_if (not (length (words rest) == 0)) BadArgument
  b ← fault_if (nat_le MOST_PHASES (length (close_phase s).phases)) TooLarge
  Ok (record (close_phase s) { place = places.Opened })
means kinds.Order s rest = do
  numbers ← ok_or (order_of (words rest)) BadArgument
  a ← fault_if (nat_lt MOST_ORDER (length numbers)) TooLarge
  Ok (record s { place = places.Ordered; order = numbers })
means kinds.Thread s rest = do
  a ← fault_if (not (length (words rest) == 0)) BadArgument
  b ← fault_if (nat_le MOST_PHASE_THREADS (length (close_thread s).threads)) TooLarge
  Ok (record (close_thread s) { place = places.Thread })
means kinds.Mkdir s rest = do
  p ← path_alone s rest
  with_op (with_names s p.1) (ops.Mkdir p.0)
means kinds.Rmdir s rest = do
  p ← path_alone s rest
  with_op (with_names s p.1) (ops.Rmdir p.0)
means kinds.Write s rest = do
  word ← ok_or (first_of (words rest)) BadArgument
  found ← ok_or (named_in s word) BadPath
  text ← ok_or (unescaped (text_behind rest)) BadEscape
  p ← ok_or found TooLarge
  a ← fault_if (nat_lt MOST_TEXT_BYTES (length text)) TooLarge
  with_op (with_names s p.1) (ops.Write p.0 text)
means kinds.Read s rest = do
  p ← path_alone s rest
  with_op (with_names s p.1) (ops.Read p.0)
means kinds.List s rest = do
  p ← path_alone s rest
  with_op (with_names s p.1) (ops.List p.0)
means kinds.Flush s rest = do
  domain ← ok_or (flush_of s.machine (words rest)) BadArgument
  with_op s (ops.Flush domain)
means kinds.Tick s rest = do
  a ← fault_if (not (length (words rest) == 0)) BadArgument
  with_op s ops.Tick
means kinds.Clflush s rest = if has_path (words rest) then drop_region s rest else drop_line s rest
means kinds.Access s rest = do
  u ← ok_or (access_of s.machine (words rest)) BadArgument
  task ← ok_or (task_of s.tasks u.task) UnknownTask
  with_op s (ops.Access task u.cpu u.at)
means kinds.Sweep s rest = do
  w ← ok_or (sweep_of s.machine (words rest)) BadArgument
  task ← ok_or (task_of s.tasks w.first.task) UnknownTask
  with_ops s w.count (sweep_ops task w)
means kinds.Touch s rest = do
  t ← ok_or (touch_of s.machine (words rest)) BadArgument
  found ← ok_or (named_in s t.0) BadPath
  task ← ok_or (task_of s.tasks t.1.task) UnknownTask
  p ← ok_or found TooLarge
  with_op (with_names s p.1) (ops.Touch t.1.cpu p.0 task t.1.at)

-- what a line means that begins with this word
unfoldable pub word_means : ReaderState → List ℕ → List ℕ → Result ReaderState LineFault
word_means s word rest = do
  a ← fault_if (is_start s.place && not (is_text word (codes "machine"))) NoMachine
  kind ← ok_or (kind_of word) UnknownWord
  b ← fault_if (not (may_stand kind s.place)) OutOfPlace
  means kind s rest

-- what a line means by its words; one without words leaves the state as it is
abbrev pub said_by : ReaderState → List (List ℕ) → List ℕ → Result ReaderState LineFault
said_by s [] rest = Ok s
said_by s (word ∷ words) rest = word_means s word rest

-- what a line means that is no comment
abbrev pub says : ReaderState → List ℕ → Result ReaderState LineFault
says s line = said_by s (words line) (behind_word line)

-- what a line means in this state, or its first fault
unfoldable pub line_meaning : ReaderState → List ℕ → Result ReaderState LineFault
line_meaning s line = do
  a ← fault_if (list_any is_bad line) BadByte
  if is_comment line then Ok s else says s line

-- ---- what the readers promise

-- (For proofs.) The error is the fault of this meaning, or out of memory.
abbrev pub Fails : {A : Type 0} → LineError → Result A LineFault → Type 0
Fails errors.NoMemory meaning = Unit {0}
Fails (errors.Fault f) meaning = meaning ≡ Err f

-- (For proofs.) After the call the state is this meaning, or memory ran out. Any other error is the fault of this meaning.
abbrev pub Means : Result (Unit {0}) LineError → ReaderState → Result ReaderState LineFault → Type 0
Means (Ok u) after meaning = meaning ≡ Ok after
Means (Err e) after meaning = Fails e meaning

-- (For proofs.) The call found what the only argument of the line names, and added the names in it and nothing else.
abbrev pub FindsAlone : Result PathRef LineError → ReaderState → ReaderState → Result Named LineFault → Type 0
FindsAlone (Ok path) before after meaning = (meaning ≡ Ok (path, after.names)) × (after ≡ with_names before after.names)
FindsAlone (Err e) before after meaning = Fails e meaning
