-- Tables with a number for each op of a script.
-- (For functions and proofs: no promise of the program stands on it.)
use Rattle.std.specs.Prelude.{◌≡◌, ℕ, ◌<◌, List, [], Vec, length, filter, Option, Some, slice_get, slice_index_or, slice_index, ◌+◌, IsTrue}
use Rattle.std.specs.declared.alloc.Global.{Global}
use Rattle.lists.specs.Sums.{one_if}
use Rattle.run_law.specs.Ops.{is_command, phase_in}
use Rattle.run_law.specs.Truth.{is_taken_from}
use Rattle.run_law.specs.TreeHistory.{TreeEntryValue}
use Rattle.script_ops.specs.Values.{ScriptValue, op_at, ops_of, threads_of}
use Rattle.script_ops.specs.declared.op.Op.{Op}

-- the numbers of the ops of a thread
abbrev pub row_of : List (List ℕ) → ℕ → List ℕ
row_of table thread = slice_index_or table thread []

-- the number of an op
abbrev pub number_at : List (List ℕ) → ℕ → ℕ → Option ℕ
number_at table thread op = slice_get (row_of table thread) op

-- there is a number for each op of the script, and no other
abbrev pub IsTableOf : ScriptValue → List (List ℕ) → Type 0
IsTableOf script table = (thread : ℕ) → length (row_of table thread) ≡ length (ops_of script thread)

-- the number of each op is how often it stands among these entries of the tree
abbrev pub AreCounts : List (List ℕ) → List TreeEntryValue → Type 0
AreCounts table tree = (thread op n : ℕ) → number_at table thread op ≡ Some n → n ≡ length (filter (is_taken_from thread op) tree)

-- the number of each thread is that of its phase
pub record ArePhases (script : ScriptValue) (phases : List ℕ) : Type 0 where
  pub all : length phases ≡ length (threads_of script)
  pub each : (thread : ℕ) → thread < length (threads_of script) → slice_index phases thread ≡ phase_in script.phases thread

-- each is zero
abbrev pub AreZero : List ℕ → Type 0
AreZero ns = (i n : ℕ) → slice_get ns i ≡ Some n → n ≡ 0

-- what contracts see of a row
abbrev pub numbers_of : Vec ℕ Global → List ℕ
numbers_of v = v.items

-- one entry more is counted, where there is such an op
abbrev pub CountsOne : List (List ℕ) → List (List ℕ) → TreeEntryValue → Type 0
CountsOne old new h =
    (thread op n : ℕ) → number_at new thread op ≡ Some n
    → (m : ℕ) × (number_at old thread op ≡ Some m) × (n ≡ m + one_if (is_taken_from thread op h))

-- each command among these ops has the number 1
abbrev pub HasOnes : List Op → List ℕ → Type 0
HasOnes ops counts = (i n : ℕ) (c : Op) → slice_get ops i ≡ Some c → IsTrue (is_command c) → slice_get counts i ≡ Some n → n ≡ 1

-- each command of a script has
abbrev pub AllOnes : ScriptValue → List (List ℕ) → Type 0
AllOnes script counts = (thread : ℕ) → HasOnes (ops_of script thread) (row_of counts thread)

-- each command of the script stands in this history of the tree once
abbrev pub AreTakenOnce : ScriptValue → List TreeEntryValue → Type 0
AreTakenOnce script tree = (thread op : ℕ) (c : Op) → op_at script thread op ≡ Some c → IsTrue (is_command c) → length (filter (is_taken_from thread op) tree) ≡ 1
