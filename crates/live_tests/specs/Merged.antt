-- One order of all entries that two lists have.
use Rattle.std.specs.Prelude.{◌≡◌, ℕ, ◌+◌, ◌*◌, ◌==◌, ◌||◌, Bool, if◌then◌else◌, List, [], ◌∷◌, ◌++◌, filter}
use Rattle.live_tests.specs.declared.entry.Entry.{Entry}
use Rattle.live_tests.specs.declared.entry.Part.{Part}

-- a thread adds a value to a list
abbrev pub entry : ℕ → ℕ → ℕ → Entry
entry list thread value = record { list = list; thread = thread; value = value }

-- whether an entry is in this list
abbrev pub is_in : ℕ → Entry → Bool
is_in list e = e.list == list

-- whether this thread added an entry
abbrev pub is_by : ℕ → Entry → Bool
is_by thread e = e.thread == thread

-- There is one order of all entries, in which those of each list and those of each thread stand in theirs.
pub record AreInOneOrder (first second by_one by_other : List Entry) : Type 0 where
  pub all : List Entry
  pub first_list : filter (is_in 0) all ≡ first
  pub second_list : filter (is_in 1) all ≡ second
  pub one_thread : filter (is_by 0) all ≡ by_one
  pub other_thread : filter (is_by 1) all ≡ by_other

-- The state that is shared. List i is part 2 * i, and what thread t has added is part 2 * t + 1.
abbrev pub part_of_list : ℕ → List Entry → ℕ × Part
part_of_list i entries = (2 * i, record { entries = entries })

abbrev pub part_of_thread : ℕ → List Entry → ℕ × Part
part_of_thread t entries = (2 * t + 1, record { entries = entries })

-- there is one list of all entries, and each part has its own of them
pub record IsMerged (at : ℕ → Part) : Type 0 where
  pub all : List Entry
  pub lists : (i : ℕ) → (at (2 * i)).entries ≡ filter (is_in i) all
  pub threads : (t : ℕ) → (at (2 * t + 1)).entries ≡ filter (is_by t) all

-- an entry goes last in the part of its list and in that of its thread
abbrev pub added : Entry → ℕ → Part → Part
added e number part = if (2 * e.list == number) || (2 * e.thread + 1 == number) then record { entries = part.entries ++ e ∷ [] } else part

-- nothing of the first list is shown
abbrev pub shown : Part → ℕ
shown part = 0

-- the parts before the first entry: two lists, and two threads
abbrev pub opening : List (ℕ × Part)
opening = part_of_list 0 [] ∷ part_of_list 1 [] ∷ part_of_thread 0 [] ∷ part_of_thread 1 [] ∷ []

-- a thread's number, and what it has added
pub record WorkerValue : Type 0 where
  pub thread : ℕ
  pub added : List Entry

-- the entries of the first of these parts
abbrev pub entries_in : List (ℕ × Part) → List Entry
entries_in [] = []
entries_in (x ∷ xs) = x.1.entries
