-- The counts that commands were given: the sums of their looks.
use Rattle.std.specs.Prelude.{◌≡◌, ℕ, ◌+◌, ◌==◌, if◌then◌else◌, List, [], ◌∷◌, take, map, Option, Some, None, option_map, option_and_then}
use Rattle.std.specs.List.{range_with_len}
use Rattle.cache_core.specs.declared.entry.SliceEntry.{SliceEntry}
use Rattle.cache_core.specs.declared.entry.What.{What}
use Rattle.cache_core.specs.declared.entry.What.TheVariants as whats
use Rattle.machine.specs.declared.parameters.Parameters.{Parameters}
use Rattle.run_law.specs.Journals.{At, JournalsValue, slice_at}
use Rattle.machine.specs.Slices.{slice_number}
use Rattle.run_law.specs.TreeHistory.{TreeEntryValue, tree_after}
use Rattle.run_law.specs.Truth.{is_made_by}
use Rattle.script_ops.specs.Values.{ScriptValue, op_at}
use Rattle.script_ops.specs.declared.op.Op.{Op}
use Rattle.tree_law.specs.State.{State}
use Rattle.tree_law.specs.Steps.{needs}

-- the lines that a look at this RMID counted; no other entry counts any
abbrev pub look_number : ℕ → What → Option ℕ
look_number rmid (whats.Access hit way owner r mask line) = None
look_number rmid whats.Raise = None
look_number rmid whats.Flush = None
look_number rmid (whats.Lock mask first_line) = None
look_number rmid (whats.Look r lines) = if r == rmid then Some lines else None
look_number rmid (whats.Drop line at) = None

-- the first of two numbers, or the second where there is no first
abbrev pub first_of : Option ℕ → Option ℕ → Option ℕ
first_of (Some n) rest = Some n
first_of None rest = rest

-- the lines that the first look of a command at this RMID counted in a slice
abbrev pub first_look : ℕ → ℕ → ℕ → List SliceEntry → Option ℕ
first_look thread op rmid [] = None
first_look thread op rmid (e ∷ es) = first_of (if is_made_by thread op e then look_number rmid e.what else None) (first_look thread op rmid es)

-- the sum of all, where each is there
abbrev pub sum_of_all : List (Option ℕ) → Option ℕ
sum_of_all [] = Some 0
sum_of_all (o ∷ os) = option_and_then (λ n. option_map (λ rest. n + rest) (sum_of_all os)) o

-- the lines that a command's looks for a (domain, RMID) counted, over the slices of the domain
abbrev pub lines_looked : ScriptValue → JournalsValue → TreeEntryValue → ℕ × ℕ → Option ℕ
lines_looked script j h need =
    sum_of_all (map (λ x. first_look h.thread h.op need.1 (slice_at j (slice_number script.machine need.0 x))) (range_with_len 0 script.machine.slices))

-- what an op needs in a state, and nothing where there is no op
abbrev pub needs_of : Parameters → State → Option Op → List (ℕ × ℕ)
needs_of m s None = []
needs_of m s (Some op) = needs m s op

-- Each command was given what its looks counted.
abbrev pub AreMatched : ScriptValue → JournalsValue → Type 0
AreMatched script j =
    (k : ℕ) (h : TreeEntryValue) → At j.tree k h
    → map (λ n. Some n) h.looks ≡ map (lines_looked script j h) (needs_of script.machine (tree_after script (take k j.tree)) (op_at script h.thread h.op))
