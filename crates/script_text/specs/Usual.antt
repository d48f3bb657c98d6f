-- Lines in their usual form: `access DEC DEC DEC` with one space between and a newline after, and nothing else; and the
-- numbers of an order.
-- (For functions and proofs: no promise of the program stands on it.)
use Rattle.std.specs.Prelude.{◌≡◌, ℕ, ◌^◌, ◌<◌, nat_lt, List, [], ◌∷◌, ◌++◌, length, codes, Option, Some, None, Result, Ok, Err, if◌then◌else◌}
use Rattle.std.specs.Borrow.{Bor}
use Rattle.std.specs.Str.Lines.{lines}
use Rattle.std.specs.Str.Parse.{digits_value, AllDigits}
use Rattle.std.specs.Option.{ok_or}
use Rattle.rc_base.specs.Faults.{◌>>=◌}
use Rattle.num_text.specs.Numbers.{dec_of, below}
use Rattle.machine.specs.declared.parameters.Parameters.{Parameters}
use Rattle.script_lines.specs.declared.fault.LineFault.{LineFault}
use Rattle.script_lines.specs.declared.fault.LineFault.TheVariants.{BadArgument, UnknownTask}
use Rattle.script_lines.specs.declared.fault.LineError.{LineError}
use Rattle.script_lines.specs.declared.arguments.Use.{Use}
use Rattle.script_ops.specs.declared.op.Op.TheVariants as ops
use Rattle.line_words.specs.Lines.{words}
use Rattle.script_text.specs.Meaning.{with_op, line_meaning, Fails}
use Rattle.script_text.specs.States.{ReaderState}
use Rattle.script_lines.specs.Tasks.{task_of}

-- A text begins with decimal digits that spell this number, then this byte, and then this rest.
pub record BeginsWithNumber (text : List ℕ) (end n : ℕ) (rest : List ℕ) : Type 0 where
  pub word : List ℕ
  pub parts : text ≡ word ++ end ∷ rest
  pub some : 0 < length word
  pub digits : AllDigits 10 word
  pub value : n ≡ digits_value 10 word
  pub fits : n < 2 ^ 64

-- A text begins with an access line of these numbers in its usual form, and then this rest.
pub record BeginsWithAccess (text : List ℕ) (task cpu addr : ℕ) (rest : List ℕ) : Type 0 where
  pub after_kind : List ℕ
  pub after_task : List ℕ
  pub after_cpu : List ℕ
  pub kind : text ≡ codes "access " ++ after_kind
  pub task_number : BeginsWithNumber after_kind 32 task after_task
  pub cpu_number : BeginsWithNumber after_task 32 cpu after_cpu
  pub addr_number : BeginsWithNumber after_cpu 10 addr rest

-- The first word of a text spells this number of an order, and the words after it are those of this rest.
pub record BeginsWithOrderNumber (text : List ℕ) (n : ℕ) (rest : List ℕ) : Type 0 where
  pub word : List ℕ
  pub first : words text ≡ word ∷ words rest
  pub number : below (2 ^ 32) (dec_of word) ≡ Some n
  pub shorter : length rest < length text

-- The first word of a text spells no number of an order.
pub record BeginsWithNoOrderNumber (text : List ℕ) : Type 0 where
  pub word : List ℕ
  pub more : List (List ℕ)
  pub first : words text ≡ word ∷ more
  pub number : below (2 ^ 32) (dec_of word) ≡ None

-- The call read the number that the first word of a text is: none where no word is left, a fault where the word is no number.
abbrev pub TakesOrderNumber : Result (Option (ℕ × Bor (List ℕ))) LineFault → List ℕ → Type 0
TakesOrderNumber (Ok None) text = words text ≡ []
TakesOrderNumber (Ok (Some p)) text = BeginsWithOrderNumber text p.0 p.1.now
TakesOrderNumber (Err f) text = (f ≡ BadArgument) × BeginsWithNoOrderNumber text

-- the use of an access line of these numbers
abbrev pub use_by : Parameters → ℕ → ℕ → ℕ → Option Use
use_by m task cpu addr = if nat_lt cpu m.cpus then (if nat_lt addr (2 ^ 48) then Some (record { task = task; cpu = cpu; at = addr }) else None) else None

-- what an access line of this use means
abbrev pub access_means : ReaderState → Option Use → Result ReaderState LineFault
access_means s used = do
  u ← ok_or used BadArgument
  task ← ok_or (task_of s.tasks u.task) UnknownTask
  with_op s (ops.Access task u.cpu u.at)

-- The call took in the first line of a text and left what stands after it, or there is no line. An error is the line's first
-- fault, or out of memory.
abbrev pub TakesLine : Result (Option (Bor (List ℕ))) LineError → ReaderState → ReaderState → List ℕ → Type 0
TakesLine (Ok None) before after text = (lines text ≡ []) × (after ≡ before)
TakesLine (Ok (Some rest)) before after text = (line : List ℕ) × (lines text ≡ line ∷ lines rest.now) × (length rest.now < length text) × (line_meaning before line ≡ Ok after)
TakesLine (Err e) before after text = (line : List ℕ) × (rest : List ℕ) × (lines text ≡ line ∷ lines rest) × Fails e (line_meaning before line)

-- The call took in a line of this meaning and left what stands after it. An error is the line's first fault, or out of memory.
abbrev pub TakesUsual : Result (Option (Bor (List ℕ))) LineError → ReaderState → List ℕ → Result ReaderState LineFault → Type 0
TakesUsual (Ok None) after rest meaning = ⊥
TakesUsual (Ok (Some left)) after rest meaning = (left.now ≡ rest) × (meaning ≡ Ok after)
TakesUsual (Err e) after rest meaning = Fails e meaning
