-- The machine of atomic steps: the journals, the present phase, who holds the tree, and where each thread is.
use Rattle.std.specs.Prelude.{List, MatchBool, None, Option, Some, [], if◌then◌else◌, length, map, nat_lt, slice_index_or, ℕ, ◌++◌, ◌+◌, ◌<◌, ◌==◌, ◌∷◌, ◌≡◌, ◌≢◌}
use Rattle.cache_core.specs.History.{EntryMayFollow, floor_of}
use Rattle.cache_core.specs.declared.entry.SliceEntry.{SliceEntry}
use Rattle.machine.specs.Maps.{line_of}
use Rattle.machine.specs.Slices.{slice_of_line}
use Rattle.machine.specs.declared.parameters.Parameters.{Parameters}
use Rattle.rc_base.specs.declared.names.Tag.{Tag}
use Rattle.run_law.specs.Growth.{PaysJob, tag_of}
use Rattle.run_law.specs.Jobs.{Job, looks_of, jobs_of}
use Rattle.run_law.specs.Journals.{At, JournalsValue, slice_at}
use Rattle.run_law.specs.Looks.{lines_looked}
use Rattle.run_law.specs.Ops.{ByKind, phase_in}
use Rattle.run_law.specs.Owed.{owed_by_access}
use Rattle.run_law.specs.Slices.{shape_in}
use Rattle.run_law.specs.TreeHistory.{CommandMayFollow, TreeEntryValue, tree_after}
use Rattle.script_ops.specs.Values.{ScriptValue, op_at}
use Rattle.script_ops.specs.declared.op.Op.{Op}
use Rattle.step_world.specs.declared.thread_state.ThreadState.{ThreadState}
use Rattle.step_world.specs.declared.thread_state.ThreadState.TheVariants.{Ready, Looking, Following, Tagged}
use Rattle.step_world.specs.declared.thread_state.Thread.{Thread}
use Rattle.tree_law.specs.Steps.{needs}

-- a state of the machine
pub record MachineValue : Type 0 where
  pub journals : JournalsValue
  pub phase : ℕ
  pub holder : Option ℕ
  pub threads : List Thread

-- where each thread is at first
abbrev pub opening_thread : Thread
opening_thread = record { next = 0; state = Ready }

-- where a thread is
abbrev pub thread_at : MachineValue → ℕ → Thread
thread_at s t = slice_index_or s.threads t opening_thread

-- ---- what steps change

-- one thread is here now, and the others are where they were
pub record Moves (t : ℕ) (now : Thread) (old new : MachineValue) : Type 0 where
  pub phase : new.phase ≡ old.phase
  pub count : length new.threads ≡ length old.threads
  pub there : thread_at new t ≡ now
  pub others : (u : ℕ) → u ≢ t → thread_at new u ≡ thread_at old u

-- a slice has this entry more, which its history allows, and the other journals are as they were
pub record Notes (m : Parameters) (i : ℕ) (e : SliceEntry) (old new : MachineValue) : Type 0 where
  pub tree : new.journals.tree ≡ old.journals.tree
  pub count : length new.journals.slices ≡ length old.journals.slices
  pub within : i < length old.journals.slices
  pub may : EntryMayFollow (shape_in m i) (slice_at old.journals i) e
  pub slices : (k : ℕ) → slice_at new.journals k ≡ slice_at old.journals k ++ (if k == i then e ∷ [] else [])

-- a job of a thread's op becomes an entry
pub record MakesEntry (m : Parameters) (t n : ℕ) (job : Job) (old new : MachineValue) : Type 0 where
  pub entry : SliceEntry
  pub pays : PaysJob t n job entry
  pub notes : Notes m job.slice entry old new

-- ---- the steps

-- a command takes the tree
pub record Takes (t : ℕ) (old new : MachineValue) : Type 0 where
  pub journals : new.journals ≡ old.journals
  pub holder : new.holder ≡ Some t
  pub moves : Moves t (record { next = (thread_at old t).next; state = Looking 0 }) old new

-- a command that holds the tree looks at a slice
pub record Looks (script : ScriptValue) (t made : ℕ) (op : Op) (old new : MachineValue) : Type 0 where
  pub job : Job
  pub there : At (looks_of script old.journals.tree (length old.journals.tree) op) made job
  pub makes : MakesEntry script.machine t (thread_at old t).next job old new
  pub holder : new.holder ≡ old.holder
  pub moves : Moves t (record { next = (thread_at old t).next; state = Looking (made + 1) }) old new

-- where a thread is whose command was decided and has made so many of all its entries
abbrev pub place_behind : ℕ → ℕ → ℕ → Thread
place_behind next made all = if nat_lt made all then record { next = next; state = Following made } else record { next = next + 1; state = Ready }

-- who holds the tree after so many of all entries
abbrev pub holder_behind : ℕ → ℕ → ℕ → Option ℕ
holder_behind t made all = if nat_lt made all then Some t else None

-- The command is decided: its entry is one that the tree's history allows, with the counts that its looks found. Where nothing
-- follows it, the tree is let go.
pub record Decides (script : ScriptValue) (t made : ℕ) (op : Op) (old new : MachineValue) : Type 0 where
  pub entry : TreeEntryValue
  pub thread : entry.thread ≡ t
  pub number : entry.op ≡ (thread_at old t).next
  pub may : CommandMayFollow script old.journals.tree entry
  pub looks : map (λ n. Some n) entry.looks ≡ map (lines_looked script old.journals entry) (needs script.machine (tree_after script old.journals.tree) op)
  pub tree : new.journals.tree ≡ old.journals.tree ++ entry ∷ []
  pub slices : new.journals.slices ≡ old.journals.slices
  pub holder : new.holder ≡ holder_behind t made (length (jobs_of script old.journals.tree (length old.journals.tree) op))
  pub moves : Moves t (place_behind (thread_at old t).next made (length (jobs_of script old.journals.tree (length old.journals.tree) op))) old new

-- One entry of a command that was decided, as the last of the tree's history, is made. After the last entry the tree is let go.
pub record Follows (script : ScriptValue) (t made : ℕ) (op : Op) (old new : MachineValue) : Type 0 where
  pub position : ℕ
  pub last : length old.journals.tree ≡ position + 1
  pub job : Job
  pub there : At (jobs_of script old.journals.tree position op) made job
  pub makes : MakesEntry script.machine t (thread_at old t).next job old new
  pub holder : new.holder ≡ holder_behind t (made + 1) (length (jobs_of script old.journals.tree position op))
  pub moves : Moves t (place_behind (thread_at old t).next (made + 1) (length (jobs_of script old.journals.tree position op))) old new

-- an access learns its tag
pub record Tags (script : ScriptValue) (t task cpu : ℕ) (old new : MachineValue) : Type 0 where
  pub journals : new.journals ≡ old.journals
  pub holder : new.holder ≡ old.holder
  pub moves : Moves t (record { next = (thread_at old t).next; state = Tagged (tag_of script.machine (tree_after script old.journals.tree) (length old.journals.tree) task cpu) }) old new

-- the access hits or fills: its entry pays what the tree of its tag's epoch gives it
pub record Touches (script : ScriptValue) (t : ℕ) (tag : Tag) (task cpu addr : ℕ) (old new : MachineValue) : Type 0 where
  pub entry : SliceEntry
  pub pays : PaysJob t (thread_at old t).next (record { slice = slice_of_line script.machine tag.domain (line_of addr); owed = owed_by_access script old.journals.tree tag.epoch task cpu addr }) entry
  pub notes : Notes script.machine (slice_of_line script.machine tag.domain (line_of addr)) entry old new
  pub holder : new.holder ≡ old.holder
  pub moves : Moves t (record { next = (thread_at old t).next + 1; state = Ready }) old new

-- the access finds its tag stale, and is to tag again
pub record TagsAgain (t : ℕ) (old new : MachineValue) : Type 0 where
  pub journals : new.journals ≡ old.journals
  pub holder : new.holder ≡ old.holder
  pub moves : Moves t (record { next = (thread_at old t).next; state = Ready }) old new

-- the floor of the slice that an access goes to
abbrev pub floor_for : ScriptValue → MachineValue → Tag → ℕ → ℕ
floor_for script s tag addr = floor_of (slice_at s.journals (slice_of_line script.machine tag.domain (line_of addr)))

-- the access touches its line, or, where its tag is below the floor, it is to tag again
abbrev pub Reaches : ScriptValue → ℕ → Tag → ℕ → ℕ → ℕ → MachineValue → MachineValue → Type 0
Reaches script t tag task cpu addr old new =
    MatchBool (nat_lt tag.epoch (floor_for script old tag addr)) (TagsAgain t old new) (Touches script t tag task cpu addr old new)

-- Take, or Tag; while somebody holds the tree, nothing
abbrev pub Begins : ScriptValue → ℕ → Op → Option ℕ → MachineValue → MachineValue → Type 0
Begins script t op (Some holder) old new = new ≡ old
Begins script t op None old new = ByKind (λ task cpu addr. Tags script t task cpu old new) (Takes t old new) op

-- The step of a thread at this place in this op. At Tagged a command changes nothing.
abbrev pub StepFrom : ScriptValue → ℕ → Op → ThreadState → MachineValue → MachineValue → Type 0
StepFrom script t op Ready old new = Begins script t op old.holder old new
StepFrom script t op (Looking made) old new =
    MatchBool (nat_lt made (length (looks_of script old.journals.tree (length old.journals.tree) op))) (Looks script t made op old new) (Decides script t made op old new)
StepFrom script t op (Following made) old new = Follows script t made op old new
StepFrom script t op (Tagged tag) old new = ByKind (λ task cpu addr. Reaches script t tag task cpu addr old new) (new ≡ old) op

-- at its end a thread changes nothing
abbrev pub StepOf : ScriptValue → ℕ → Option Op → MachineValue → MachineValue → Type 0
StepOf script t None old new = new ≡ old
StepOf script t (Some op) old new = StepFrom script t op (thread_at old t).state old new

-- One step of a thread. A thread of another phase changes nothing.
abbrev pub Steps : ScriptValue → ℕ → MachineValue → MachineValue → Type 0
Steps script t old new =
    MatchBool (phase_in script.phases t == old.phase) (StepOf script t (op_at script t (thread_at old t).next) old new) (new ≡ old)
