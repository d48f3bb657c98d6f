-- Declared tasks.
use Rattle.std.specs.Prelude.{◌≡◌, Result, Ok, Err, ℕ, ◌+◌, ◌-◌, ◌≤◌, ◌^◌, Bool, ◌&&◌, ◌==◌, nat_lt, nat_le, List, [], ◌∷◌, ◌++◌, Option, Some, None, if◌then◌else◌}
use Rattle.std.specs.Option.{option_and_then}
use Rattle.std.specs.List.{list_any, before_first, after_first, sum_by, flat_map, position_or_len, range_with_len, insert}
use Rattle.num_text.specs.Signs.{dash}
use Rattle.num_text.specs.Numbers.{dec_of, below}
use Rattle.script_lines.specs.declared.fault.LineError.{LineError}
use Rattle.script_lines.specs.declared.fault.LineError.TheVariants as errors
use Rattle.script_lines.specs.declared.fault.LineFault.TheVariants.{BadTasks}
use Rattle.script_lines.specs.declared.tasks.TaskRange.{TaskRange}

-- a task id: 1 to 2 ^ 32 - 1
abbrev pub id_of : List ℕ → Option ℕ
id_of text = option_and_then (λ n. if n == 0 then None else Some n) (below (2 ^ 32) (dec_of text))

-- the tasks from one to another, if the first is no greater
abbrev pub range_of : ℕ → ℕ → Option TaskRange
range_of first last = if nat_lt last first then None else Some (record { first = first; last = last })

-- the tasks of a word `a` or `a-b`, with `a` at most `b`
unfoldable pub tasks_of : List ℕ → Option TaskRange
tasks_of word =
    if list_any dash word
    then option_and_then (λ first. option_and_then (λ last. range_of first last) (id_of (after_first dash word))) (id_of (before_first dash word))
    else option_and_then (λ id. range_of id id) (id_of word)

-- whether two ranges have a task in common
abbrev pub meets : TaskRange → TaskRange → Bool
meets a b = nat_le a.first b.last && nat_le b.first a.last

-- whether a range begins later
abbrev pub is_behind : TaskRange → TaskRange → Bool
is_behind a b = nat_lt a.first b.first

-- ranges in rising order, and one more in its place
abbrev pub with_range : TaskRange → List TaskRange → List TaskRange
with_range t all = insert all (position_or_len (is_behind t) all) t

-- these and the tasks of the words, where each word declares tasks and none is declared twice
unfoldable pub declared_from : List TaskRange → List (List ℕ) → Option (List TaskRange)
declared_from all [] = Some all
declared_from all (word ∷ words) = option_and_then (λ t. if list_any (meets t) all then None else declared_from (with_range t all) words) (tasks_of word)

-- the same, for one word or more
abbrev pub declared : List TaskRange → List (List ℕ) → Option (List TaskRange)
declared all [] = None
declared all (word ∷ words) = declared_from all (word ∷ words)

-- (For proofs.) these and the tasks of the words, in the order of the words, where each word declares tasks
unfoldable pub ranges_from : List TaskRange → List (List ℕ) → Option (List TaskRange)
ranges_from all [] = Some all
ranges_from all (word ∷ words) = option_and_then (λ t. ranges_from (all ++ t ∷ []) words) (tasks_of word)

-- whether a range has this task
abbrev pub has_task : ℕ → TaskRange → Bool
has_task id t = nat_le t.first id && nat_le id t.last

-- (For proofs.) each range begins after the end of the one before it, and the first no lower than this
abbrev pub RiseFrom : ℕ → List TaskRange → Type 0
RiseFrom low [] = Unit {0}
RiseFrom low (t ∷ ts) = (low ≤ t.first) × (t.first ≤ t.last) × RiseFrom (t.last + 1) ts

-- the task of this id, where it is declared
abbrev pub task_of : List TaskRange → ℕ → Option ℕ
task_of all id = if nat_lt id (2 ^ 32) && list_any (has_task id) all then Some id else None

-- how many tasks a range has
abbrev pub size_of : TaskRange → ℕ
size_of t = t.last + 1 - t.first

-- how many tasks ranges have
abbrev pub count_of : List TaskRange → ℕ
count_of all = sum_by size_of all

-- the ids of a range
abbrev pub ids_in : TaskRange → List ℕ
ids_in t = range_with_len t.first (size_of t)

-- the ids of all ranges
abbrev pub ids_of : List TaskRange → List ℕ
ids_of all = flat_map ids_in all

-- (For proofs.) After the call the ranges are this declaration, or memory ran out. BadTasks says that there is none.
abbrev pub Declares : Result (Unit {0}) LineError → List TaskRange → Option (List TaskRange) → Type 0
Declares (Ok u) after declaration = declaration ≡ Some after
Declares (Err errors.NoMemory) after declaration = Unit {0}
Declares (Err (errors.Fault f)) after declaration = (f ≡ BadTasks) × (declaration ≡ None)
