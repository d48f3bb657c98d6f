-- The parts of the machine's state, and what happens to them.
use Rattle.std.specs.Prelude.{List, None, Option, Some, true, false, Bool, [], if◌then◌else◌, length, take, ℕ, zero, suc, ◌++◌, ◌+◌, ◌*◌, ◌<◌, ◌∷◌, ◌≡◌, ◌≤◌}
use Rattle.cache_core.specs.declared.entry.SliceEntry.{SliceEntry}
use Rattle.cache_core.specs.declared.entry.What.{What}
use Rattle.cache_core.specs.declared.entry.What.TheVariants as whats
use Rattle.machine.specs.Slices.{slice_count}
use Rattle.run_law.specs.Growth.{tag_of}
use Rattle.run_law.specs.Journals.{slice_at}
use Rattle.run_law.specs.Ops.{phase_in}
use Rattle.run_law.specs.TreeHistory.{TreeEntryValue, tree_after}
use Rattle.script_ops.specs.Values.{ScriptValue, op_at, threads_of}
use Rattle.script_ops.specs.declared.op.Op.{Op}
use Rattle.schedule_law.specs.declared.part.GivenTag.{GivenTag}
use Rattle.step_world.specs.Looked.{HasLooked}
use Rattle.step_world.specs.Machine.{MachineValue, opening_thread, thread_at}
use Rattle.step_world.specs.Schedules.{Event, HasEnded, IsOpening, Plays}
use Rattle.step_world.specs.declared.thread_state.ThreadState.{ThreadState}
use Rattle.step_world.specs.declared.thread_state.ThreadState.TheVariants.{Ready, Looking, Following, Tagged}
use Rattle.step_world.specs.declared.thread_state.Thread.{Thread}

-- a part of the machine's state
pub data PartValue : Type 0 where
  Tree : List TreeEntryValue → Option ℕ → PartValue  -- the tree's journal, and who holds the tree
  Slice : List SliceEntry → PartValue  -- the journal of a slice
  Worker : Thread → Bool → List ℕ → Option GivenTag → PartValue  -- where a thread is, whether its phase is known to have begun, what its looks found, and the tag that it was given last
  Phase : ℕ → ℕ → PartValue  -- the number of the present phase, and of the first thread that is not known to be at its end

-- what happens; where the flag is set nothing follows the command
pub data HappeningValue : Type 0 where
  Take : ℕ → HappeningValue
  Look : SliceEntry → HappeningValue
  Decide : TreeEntryValue → Bool → ℕ → HappeningValue
  Follow : SliceEntry → Bool → HappeningValue
  Label : GivenTag → HappeningValue
  Touch : SliceEntry → HappeningValue
  Again : HappeningValue
  Begin : HappeningValue
  End : HappeningValue
  Pass : HappeningValue

-- the numbers of the parts: 0 is the tree, 1 the phase, then slices and threads in turn
abbrev pub number_of_slice : ℕ → ℕ
number_of_slice i = 2 + 2 * i

abbrev pub number_of_thread : ℕ → ℕ
number_of_thread t = 3 + 2 * t

-- a state of some schedule
pub record IsReached (script : ScriptValue) (s : MachineValue) : Type 0 where
  pub events : List Event
  pub first : MachineValue
  pub opening : IsOpening script first
  pub plays : Plays script events first s

-- A tag is what the tree gave to this task on this CPU when it had taken as many commands as the tag's epoch says.
pub record WasGiven (script : ScriptValue) (history : List TreeEntryValue) (g : GivenTag) : Type 0 where
  pub early : g.tag.epoch ≤ length history
  pub is : g.tag ≡ tag_of script.machine (tree_after script (take g.tag.epoch history)) g.tag.epoch g.task g.cpu

-- A state that can be reached, in parts. Where a thread's phase is said to have begun it has, where its command looks it has found
-- these numbers, the tag that it is said to have was given to it, and the threads that are said to be at their ends are there.
pub record AreReached (script : ScriptValue) (at : ℕ → PartValue) : Type 0 where
  pub state : MachineValue
  pub reached : IsReached script state
  pub count : length state.threads ≡ length (threads_of script)
  pub begun : ℕ → Bool
  pub found : ℕ → List ℕ
  pub given : ℕ → Option GivenTag
  pub ended : ℕ
  pub tree : at 0 ≡ Tree state.journals.tree state.holder
  pub phase : at 1 ≡ Phase state.phase ended
  pub slices : (i : ℕ) → at (number_of_slice i) ≡ Slice (slice_at state.journals i)
  pub threads : (t : ℕ) → at (number_of_thread t) ≡ Worker (thread_at state t) (begun t) (found t) (given t)
  pub begins : (t : ℕ) → begun t ≡ true → phase_in script.phases t ≤ state.phase
  pub ends : (t : ℕ) → t < ended → HasEnded script t (thread_at state t)
  pub gave : (t : ℕ) (g : GivenTag) → given t ≡ Some g → WasGiven script state.journals.tree g
  pub looked : (t made : ℕ) (op : Op) → (thread_at state t).state ≡ Looking made → op_at script t (thread_at state t).next ≡ Some op → HasLooked script state t op (found t)

-- ---- what happens to a part

abbrev pub moved : Thread → ThreadState → Thread
moved v place = record { next = v.next; state = place }

abbrev pub done : Thread → Thread
done v = record { next = v.next + 1; state = Ready }

-- a thread has made one entry more
abbrev pub one_more : ThreadState → ThreadState
one_more Ready = Ready
one_more (Looking made) = Looking (made + 1)
one_more (Following made) = Following (made + 1)
one_more (Tagged tag) = Tagged tag

abbrev pub thread_after : HappeningValue → Thread → Thread
thread_after (Take t) v = moved v (Looking 0)
thread_after (Look e) v = moved v (one_more v.state)
thread_after (Decide h last made) v = if last then done v else moved v (Following made)
thread_after (Follow e last) v = if last then done v else moved v (one_more v.state)
thread_after (Label g) v = moved v (Tagged g.tag)
thread_after (Touch e) v = done v
thread_after Again v = moved v Ready
thread_after Begin v = v
thread_after End v = v
thread_after Pass v = v

abbrev pub history_after : HappeningValue → List TreeEntryValue → List TreeEntryValue
history_after (Decide h last made) hs = hs ++ h ∷ []
history_after e hs = hs

abbrev pub let_go : Bool → Option ℕ → Option ℕ
let_go last holder = if last then None else holder

abbrev pub holder_after : HappeningValue → Option ℕ → Option ℕ
holder_after (Take t) holder = Some t
holder_after (Decide h last made) holder = let_go last holder
holder_after (Follow e last) holder = let_go last holder
holder_after e holder = holder

abbrev pub list_after : HappeningValue → List SliceEntry → List SliceEntry
list_after (Look e) es = es ++ e ∷ []
list_after (Follow e last) es = es ++ e ∷ []
list_after (Touch e) es = es ++ e ∷ []
list_after e es = es

abbrev pub begun_after : HappeningValue → Bool → Bool
begun_after Begin b = true
begun_after e b = b

-- the lines that a look counted
abbrev pub lines_in : What → ℕ
lines_in (whats.Look rmid lines) = lines
lines_in what = 0

abbrev pub found_after : HappeningValue → List ℕ → List ℕ
found_after (Take t) found = []
found_after (Look e) found = found ++ lines_in e.what ∷ []
found_after e found = found

-- the tag that a thread was given last
abbrev pub given_after : HappeningValue → Option GivenTag → Option GivenTag
given_after (Label g) given = Some g
given_after e given = given

abbrev pub phase_after : HappeningValue → ℕ → ℕ
phase_after Pass n = n + 1
phase_after e n = n

-- the first thread that is not known to be at its end
abbrev pub ended_after : HappeningValue → ℕ → ℕ
ended_after End n = n + 1
ended_after e n = n

abbrev pub part_after : HappeningValue → ℕ → PartValue → PartValue
part_after e k (Tree history holder) = Tree (history_after e history) (holder_after e holder)
part_after e k (Slice list) = Slice (list_after e list)
part_after e k (Worker thread begun found given) = Worker (thread_after e thread) (begun_after e begun) (found_after e found) (given_after e given)
part_after e k (Phase number ended) = Phase (phase_after e number) (ended_after e ended)

-- ---- what every thread may read of the tree

-- whether a thread holds it
abbrev pub held : Option ℕ → ℕ
held None = 0
held (Some t) = 1

-- Twice the length of the tree's history, and one more while a command holds the tree. Of other parts nothing is shown.
abbrev pub shown_of : PartValue → ℕ
shown_of (Tree history holder) = 2 * length history + held holder
shown_of (Slice list) = 0
shown_of (Worker thread begun found given) = 0
shown_of (Phase number ended) = 0

-- a part with its number
abbrev pub tree_part : List TreeEntryValue → Option ℕ → ℕ × PartValue
tree_part history holder = (0, Tree history holder)

abbrev pub slice_part : ℕ → List SliceEntry → ℕ × PartValue
slice_part i list = (number_of_slice i, Slice list)

abbrev pub thread_part : ℕ → Thread → Bool → List ℕ → Option GivenTag → ℕ × PartValue
thread_part t v begun found given = (number_of_thread t, Worker v begun found given)

abbrev pub phase_part : ℕ → ℕ → ℕ × PartValue
phase_part p ended = (1, Phase p ended)

-- ---- the start

-- the parts of n slices from slice i on, and of n threads from thread t on, before the first step
abbrev pub slice_parts : ℕ → ℕ → List (ℕ × PartValue)
slice_parts i zero = []
slice_parts i (suc n) = slice_part i [] ∷ slice_parts (i + 1) n

abbrev pub thread_parts : ℕ → ℕ → List (ℕ × PartValue)
thread_parts t zero = []
thread_parts t (suc n) = thread_part t opening_thread false [] None ∷ thread_parts (t + 1) n

-- all parts before the first step
abbrev pub opening_parts : ScriptValue → List (ℕ × PartValue)
opening_parts script = tree_part [] None ∷ phase_part 0 0 ∷ slice_parts 0 (slice_count script.machine) ++ thread_parts 0 (length (threads_of script))
