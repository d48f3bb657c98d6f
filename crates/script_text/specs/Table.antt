-- The faults of a line as a table: which faults it has, and the order in which they are tried.
-- (For functions and proofs: no promise of the program stands on it.)
use Rattle.std.specs.Prelude.{◌≡◌, ℕ, ◌+◌, Bool, true, false, not, ◌&&◌, ◌||◌, ◌==◌, nat_lt, nat_le, List, [], ◌∷◌, length, codes, Option, Some, None, Result, Ok, Err, is_none, if◌then◌else◌}
use Rattle.std.specs.List.{list_any, find}
use Rattle.rc_base.specs.Texts.{is_text}
use Rattle.path_names.specs.declared.path_ref.PathRef.{PathRef}
use Rattle.script_lines.specs.declared.fault.LineFault.{LineFault}
use Rattle.script_lines.specs.declared.fault.LineFault.TheVariants.{BadByte, NoMachine, UnknownWord, OutOfPlace, BadMachine, BadTasks, BadArgument, BadPath, UnknownTask, BadEscape, TooLarge}
use Rattle.script_lines.specs.declared.arguments.Use.{Use}
use Rattle.script_lines.specs.declared.arguments.Sweep.{Sweep}
use Rattle.script_ops.specs.declared.op.Op.{Op}
use Rattle.script_ops.specs.declared.op.Op.TheVariants as ops
use Rattle.script_text.specs.declared.kind.Kind.{Kind}
use Rattle.script_text.specs.declared.kind.Kind.TheVariants as kinds
use Rattle.script_lines.specs.Arguments.{access_of, flush_of, sweep_of, touch_of, drop_line_of, drop_region_of, has_path, order_of, only, first_of}
use Rattle.script_lines.specs.Escapes.{unescaped, text_behind}
use Rattle.script_lines.specs.Keys.{machine_of}
use Rattle.script_text.specs.Kinds.{kind_of, may_stand}
use Rattle.line_words.specs.Lines.{is_bad, is_comment, words, behind_word}
use Rattle.script_text.specs.Meaning.{line_meaning, named_in}
use Rattle.script_lines.specs.Paths.{Named}
use Rattle.script_text.specs.States.{ReaderState, close_thread, close_phase, is_start}
use Rattle.script_lines.specs.Tasks.{declared, task_of, count_of}
use Rattle.script_ops.specs.Weights.{weight_of}
use Rattle.script_ops.specs.declared.limits.TheConstants.{MOST_WEIGHT, MOST_TASKS, MOST_TEXT_BYTES, MOST_ORDER, MOST_PHASES, MOST_PHASE_THREADS}

-- the order in which the faults are tried
abbrev pub order : List LineFault
order = BadByte ∷ NoMachine ∷ UnknownWord ∷ OutOfPlace ∷ BadMachine ∷ BadTasks ∷ BadArgument ∷ BadPath ∷ UnknownTask ∷ BadEscape ∷ TooLarge ∷ []

-- whether there is a value, and it passes a test
abbrev pub passes : {A : Type 0} → (A → Bool) → Option A → Bool
passes test None = false
passes test (Some x) = test x

-- a task that is not declared
abbrev pub no_task : ReaderState → ℕ → Bool
no_task s id = is_none (task_of s.tasks id)

-- a weight that passes the limit of the script
abbrev pub is_over : ReaderState → ℕ → Bool
is_over s weight = nat_lt MOST_WEIGHT (s.weight + weight)

-- a word that is no path
abbrev pub no_path : ReaderState → List ℕ → Bool
no_path s word = is_none (named_in s word)

-- a path that is too long, or an op of it that weighs too much
abbrev pub is_over_at : ReaderState → (PathRef → Op) → Option Named → Bool
is_over_at s op None = true
is_over_at s op (Some p) = is_over s (weight_of s.machine (op p.0))

-- a word whose path is too long, or whose op weighs too much
abbrev pub path_over : ReaderState → (PathRef → Op) → List ℕ → Bool
path_over s op word = passes (λ found. is_over_at s op found) (named_in s word)

-- the faults of a line of one path
abbrev pub path_fault : ReaderState → (PathRef → Op) → List ℕ → LineFault → Bool
path_fault s op rest BadArgument = is_none (only (words rest))
path_fault s op rest BadPath = passes (λ word. no_path s word) (only (words rest))
path_fault s op rest TooLarge = passes (λ word. path_over s op word) (only (words rest))
path_fault s op rest fault = false

-- a text that is too long, or a write of it that weighs too much
abbrev pub text_over : ReaderState → List ℕ → List ℕ → Bool
text_over s word text = nat_lt MOST_TEXT_BYTES (length text) || path_over s (λ path. ops.Write path text) word

-- the faults of `clflush ADDR`
abbrev pub drop_line_fault : ReaderState → List ℕ → LineFault → Bool
drop_line_fault s rest BadArgument = is_none (drop_line_of (words rest))
drop_line_fault s rest TooLarge = passes (λ addr. is_over s (weight_of s.machine (ops.DropLine addr))) (drop_line_of (words rest))
drop_line_fault s rest fault = false

-- the faults of `clflush PATH OFFSET`
abbrev pub drop_region_fault : ReaderState → List ℕ → LineFault → Bool
drop_region_fault s rest BadArgument = is_none (drop_region_of (words rest))
drop_region_fault s rest BadPath = passes (λ (t : List ℕ × ℕ). no_path s t.0) (drop_region_of (words rest))
drop_region_fault s rest TooLarge = passes (λ (t : List ℕ × ℕ). path_over s (λ path. ops.DropRegion path t.1) t.0) (drop_region_of (words rest))
drop_region_fault s rest fault = false

-- the faults of what stands after the first word, in a line of each kind
unfoldable pub argument_fault : Kind → ReaderState → List ℕ → LineFault → Bool
argument_fault kinds.Machine s rest BadMachine = is_none (machine_of (words rest))
argument_fault kinds.Tasks s rest BadTasks = is_none (declared s.tasks (words rest))
argument_fault kinds.Tasks s rest TooLarge = passes (λ all. nat_lt MOST_TASKS (count_of all)) (declared s.tasks (words rest))
argument_fault kinds.Phase s rest BadArgument = not (length (words rest) == 0)
argument_fault kinds.Phase s rest TooLarge = nat_le MOST_PHASES (length (close_phase s).phases)
argument_fault kinds.Order s rest BadArgument = is_none (order_of (words rest))
argument_fault kinds.Order s rest TooLarge = passes (λ numbers. nat_lt MOST_ORDER (length numbers)) (order_of (words rest))
argument_fault kinds.Thread s rest BadArgument = not (length (words rest) == 0)
argument_fault kinds.Thread s rest TooLarge = nat_le MOST_PHASE_THREADS (length (close_thread s).threads)
argument_fault kinds.Mkdir s rest fault = path_fault s (λ path. ops.Mkdir path) rest fault
argument_fault kinds.Rmdir s rest fault = path_fault s (λ path. ops.Rmdir path) rest fault
argument_fault kinds.Read s rest fault = path_fault s (λ path. ops.Read path) rest fault
argument_fault kinds.List s rest fault = path_fault s (λ path. ops.List path) rest fault
argument_fault kinds.Write s rest BadArgument = is_none (first_of (words rest))
argument_fault kinds.Write s rest BadPath = passes (λ word. no_path s word) (first_of (words rest))
argument_fault kinds.Write s rest BadEscape = is_none (unescaped (text_behind rest))
argument_fault kinds.Write s rest TooLarge = passes (λ word. passes (λ text. text_over s word text) (unescaped (text_behind rest))) (first_of (words rest))
argument_fault kinds.Flush s rest BadArgument = is_none (flush_of s.machine (words rest))
argument_fault kinds.Flush s rest TooLarge = passes (λ domain. is_over s (weight_of s.machine (ops.Flush domain))) (flush_of s.machine (words rest))
argument_fault kinds.Tick s rest BadArgument = not (length (words rest) == 0)
argument_fault kinds.Tick s rest TooLarge = is_over s (weight_of s.machine ops.Tick)
argument_fault kinds.Clflush s rest fault = if has_path (words rest) then drop_region_fault s rest fault else drop_line_fault s rest fault
argument_fault kinds.Access s rest BadArgument = is_none (access_of s.machine (words rest))
argument_fault kinds.Access s rest UnknownTask = passes (λ (u : Use). no_task s u.task) (access_of s.machine (words rest))
argument_fault kinds.Access s rest TooLarge = is_over s 1
argument_fault kinds.Sweep s rest BadArgument = is_none (sweep_of s.machine (words rest))
argument_fault kinds.Sweep s rest UnknownTask = passes (λ (w : Sweep). no_task s w.first.task) (sweep_of s.machine (words rest))
argument_fault kinds.Sweep s rest TooLarge = passes (λ (w : Sweep). is_over s w.count) (sweep_of s.machine (words rest))
argument_fault kinds.Touch s rest BadArgument = is_none (touch_of s.machine (words rest))
argument_fault kinds.Touch s rest BadPath = passes (λ (t : List ℕ × Use). no_path s t.0) (touch_of s.machine (words rest))
argument_fault kinds.Touch s rest UnknownTask = passes (λ (t : List ℕ × Use). no_task s t.1.task) (touch_of s.machine (words rest))
argument_fault kinds.Touch s rest TooLarge = passes (λ (t : List ℕ × Use). path_over s (λ path. ops.Touch t.1.cpu path t.1.task t.1.at) t.0) (touch_of s.machine (words rest))
argument_fault kind s rest fault = false

-- the faults of a line that begins with this word
unfoldable pub word_fault : ReaderState → List ℕ → List ℕ → LineFault → Bool
word_fault s word rest BadByte = false
word_fault s word rest NoMachine = is_start s.place && not (is_text word (codes "machine"))
word_fault s word rest UnknownWord = is_none (kind_of word)
word_fault s word rest OutOfPlace = passes (λ k. not (may_stand k s.place)) (kind_of word)
word_fault s word rest fault = passes (λ k. argument_fault k s rest fault) (kind_of word)

-- the faults of a line by its words; one without words has none
abbrev pub said_fault : ReaderState → List (List ℕ) → List ℕ → LineFault → Bool
said_fault s [] rest fault = false
said_fault s (word ∷ words) rest fault = word_fault s word rest fault

-- whether a line has a fault, in this state
unfoldable pub has_fault : ReaderState → List ℕ → LineFault → Bool
has_fault s line BadByte = list_any is_bad line
has_fault s line fault = not (is_comment line) && said_fault s (words line) (behind_word line) fault

-- the fault of a meaning, where it is one
abbrev pub fault_of : {A : Type 0} → Result A LineFault → Option LineFault
fault_of (Ok s) = None
fault_of (Err fault) = Some fault

-- The fault of a line is the first that it has in that order.
abbrev pub FaultsInOrder : Type 0
FaultsInOrder = (s : ReaderState) (line : List ℕ) → find (has_fault s line) order ≡ fault_of (line_meaning s line)
