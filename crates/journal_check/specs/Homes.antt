-- The entries of accesses: one in the slice of its line, and none in others.
-- (For functions and proofs: no promise of the program stands on it.)
use Rattle.std.specs.List.{filter}
use Rattle.std.specs.Prelude.{◌≡◌, ℕ, ◌+◌, ◌<◌, ◌==◌, false, List, None, Option, Some, length, option_and_then, slice_get, take, ◌&&◌}
use Rattle.cache_core.specs.declared.entry.SliceEntry.{SliceEntry}
use Rattle.journal_check.specs.Begun.{IsSeen}
use Rattle.journal_check.specs.Tables.{number_at, row_of}
use Rattle.lists.specs.Sums.{one_if, sum_below}
use Rattle.machine.specs.Maps.{domain_of, line_of}
use Rattle.machine.specs.Slices.{slice_of_line}
use Rattle.machine.specs.declared.parameters.Parameters.{Parameters}
use Rattle.run_law.specs.Journals.{At, JournalsValue, slice_at}
use Rattle.run_law.specs.Ops.{ByKind, is_command}
use Rattle.run_law.specs.Truth.{is_made_by}
use Rattle.script_ops.specs.Values.{ScriptValue, op_at, ops_of}
use Rattle.script_ops.specs.declared.op.Op.{Op}
use Rattle.script_ops.specs.declared.op.Op.TheVariants.{Access}

-- an access has so many entries in slice i: one where its line is there, and else none; of a command nothing is asked
abbrev pub IsHomeCount : Parameters → ℕ → ℕ → Op → Type 0
IsHomeCount m i n op = ByKind (λ task cpu addr. n ≡ one_if (i == slice_of_line m (domain_of m cpu) (line_of addr))) (Unit {0}) op

-- among these entries of slice i each access of the script has just one where its line is there, and else none
abbrev pub AccessesStandOnce : ScriptValue → ℕ → List SliceEntry → Type 0
AccessesStandOnce script i entries = (thread op : ℕ) (c : Op) → op_at script thread op ≡ Some c → IsHomeCount script.machine i (length (filter (is_made_by thread op) entries)) c

-- the same in every slice
abbrev pub AreAtHome : ScriptValue → JournalsValue → Type 0
AreAtHome script j = (i : ℕ) → i < length j.slices → AccessesStandOnce script i (slice_at j i)

-- the slice of the line of an access, by its number over all domains
abbrev pub home_of : Parameters → Op → Option ℕ
home_of m (Access task cpu addr) = Some (slice_of_line m (domain_of m cpu) (line_of addr))
home_of m op = None

-- the same of the op of these numbers
abbrev pub home_at : ScriptValue → ℕ → ℕ → Option ℕ
home_at script thread op = option_and_then (home_of script.machine) (op_at script thread op)

-- how many entries an op has in slice i
abbrev pub count_in : JournalsValue → ℕ → ℕ → ℕ → ℕ
count_in j thread op i = length (filter (is_made_by thread op) (slice_at j i))

-- how many in the slices before slice i, and among the first n entries of slice i
abbrev pub count_before : JournalsValue → ℕ → ℕ → ℕ → ℕ → ℕ
count_before j thread op i n = sum_below i (count_in j thread op) + length (filter (is_made_by thread op) (take n (slice_at j i)))

-- The number of each access is how often it stands in the slices before slice i and among the first n entries of slice i, and each
-- of these entries is in the slice of its line.
pub record AreMarked (script : ScriptValue) (j : JournalsValue) (i n : ℕ) (table : List (List ℕ)) : Type 0 where
  pub counts : (thread op home m : ℕ) → home_at script thread op ≡ Some home → number_at table thread op ≡ Some m → m ≡ count_before j thread op i n
  pub homes : (a p home : ℕ) (e : SliceEntry) → IsSeen i n a p → At (slice_at j a) p e → home_at script e.thread e.op ≡ Some home → a ≡ home

-- an op without a mark gets one
pub record MarksOp (old new : List (List ℕ)) (thread op : ℕ) : Type 0 where
  pub none : number_at old thread op ≡ Some 0
  pub changed : (t o n : ℕ) → number_at new t o ≡ Some n → (m : ℕ) × (number_at old t o ≡ Some m) × (n ≡ m + one_if ((thread == t) && (op == o)))

-- each access among these ops has the number 1
abbrev pub HasMarks : List Op → List ℕ → Type 0
HasMarks ops marks = (i n : ℕ) (c : Op) → slice_get ops i ≡ Some c → is_command c ≡ false → slice_get marks i ≡ Some n → n ≡ 1

-- each access of the script has
abbrev pub AllMarked : ScriptValue → List (List ℕ) → Type 0
AllMarked script table = (thread : ℕ) → HasMarks (ops_of script thread) (row_of table thread)
