-- The shares of one table of parts: who has which part, and what a step makes of it.
-- (For functions and proofs: no promise of the program stands on it.)
use Rattle.std.specs.Prelude.{◌≡◌, ℕ, ◌+◌, Bool, false, true, if◌then◌else◌, not, nat_lt, List, [], ◌∷◌, length, None, Some, Option, Result, Ok, Err}
use Rattle.atomic_table.specs.Seated.{TableId}
use Rattle.step_world.specs.declared.reached.Reached.{Reached}
use Rattle.cache_core.specs.Stands.{entry}
use Rattle.cache_core.specs.declared.entry.SliceEntry.{SliceEntry}
use Rattle.cache_core.specs.declared.entry.What.TheVariants as whats
use Rattle.live_run.specs.Names.{SeenValue, history_of}
use Rattle.machine.specs.Maps.{line_of}
use Rattle.machine.specs.Slices.{slice_of_line}
use Rattle.rc_base.specs.declared.names.Tag.{Tag}
use Rattle.run_law.specs.FoundLooks.{AreDistinct, pairs_for}
use Rattle.run_law.specs.Jobs.{jobs_of}
use Rattle.run_law.specs.Journals.{At}
use Rattle.run_law.specs.Owed.{what_of}
use Rattle.run_law.specs.declared.journals.TreeEntry.{TreeEntry}
use Rattle.schedule_law.specs.declared.part.GivenTag.{GivenTag}
use Rattle.schedule_law.specs.LiveParts.{after, live_phase, live_thread, live_tree, resting_thread}
use Rattle.schedule_law.specs.declared.part.Happening.{Happening}
use Rattle.schedule_law.specs.declared.part.Happening.TheVariants as happenings
use Rattle.schedule_law.specs.declared.part.Part.{Part}
use Rattle.schedule_law.specs.declared.part.Part.TheVariants as parts
use Rattle.script_ops.specs.Values.{ScriptValue, first_thread, op_at}
use Rattle.script_ops.specs.declared.op.Op.{Op}
use Rattle.script_ops.specs.declared.op.Op.TheVariants.{Access}
use Rattle.seen_journal.specs.Entries.{list_of}
use Rattle.seen_journal.specs.Journals.{JournalValue}
use Rattle.shared_parts.specs.Parts.{parts_after}
use Rattle.shared_parts.specs.Shares.{ShareValue}
use Rattle.shared_parts.specs.Words.{words_for}
use Rattle.step_world.specs.declared.thread_state.ThreadState.{ThreadState}
use Rattle.step_world.specs.declared.thread_state.ThreadState.TheVariants.{Looking, Following, Tagged}
use Rattle.tree_law.specs.declared.follow.Follow.{Follow}

-- how many locks a run has: one for each slice of the greatest machine, and then that of the tree
abbrev pub lock_count : ℕ
lock_count = 33

-- A share of the run's table has these parts. The table has a word for each lock.
pub record IsShareOf (table : TableId) (own : List (ℕ × Part)) (share : ShareValue Part) : Type 0 where
  pub table_is : share.table ≡ table
  pub words : table.words ≡ words_for lock_count
  pub parts_are : share.parts ≡ own

-- a tag, with the task and the CPU to which it was given
abbrev pub noted_tag : ℕ → ℕ → Tag → GivenTag
noted_tag task cpu tag = record { task = task; cpu = cpu; tag = tag }

-- an event has happened to the parts of a share
abbrev pub HasStepped : Happening → ShareValue Part → ShareValue Part → Type 0
HasStepped e old new = (new.table ≡ old.table) × (new.parts ≡ parts_after after e old.parts)

-- whether the phase of the thread that is the first of these parts is known to have begun
abbrev pub begun_of : Part → Bool
begun_of (parts.Tree history holder) = false
begun_of (parts.Slice list) = false
begun_of (parts.Worker thread begun found given) = begun
begun_of (parts.Phase number ended) = false

abbrev pub begun_in : List (ℕ × Part) → Bool
begun_in [] = false
begun_in (x ∷ xs) = begun_of x.1

-- the tag that the thread that is the first of these parts was given last
abbrev pub given_of : Part → Option GivenTag
given_of (parts.Tree history holder) = None
given_of (parts.Slice list) = None
given_of (parts.Worker thread begun found given) = given
given_of (parts.Phase number ended) = None

abbrev pub given_in : List (ℕ × Part) → Option GivenTag
given_in [] = None
given_in (x ∷ xs) = given_of x.1

-- the share of who starts the phases: the threads of all phases before this one are at their ends
abbrev pub IsAtPhase : ScriptValue → TableId → ℕ → ShareValue Part → Type 0
IsAtPhase script table phase share = IsShareOf table (live_phase phase (first_thread script phase) ∷ []) share

-- The share of a thread between two of its ops.
pub record IsResting (table : TableId) (t n : ℕ) (begun : Bool) (share : ShareValue Part) : Type 0 where
  pub found : List ℕ
  pub given : Option GivenTag
  pub is : IsShareOf table (resting_thread t n begun found given ∷ []) share

-- the parts of a thread whose command holds the tree
abbrev pub holding : List TreeEntry → ℕ → ℕ → ThreadState → List ℕ → Option GivenTag → List (ℕ × Part)
holding history t n place found given = live_tree history (Some t) ∷ live_thread t n place found given ∷ []

-- those of one whose decided command has made so many of all entries that it owes: after the last it has let the tree go
abbrev pub following : List TreeEntry → ℕ → ℕ → ℕ → ℕ → List ℕ → Option GivenTag → List (ℕ × Part)
following history t n made all found given =
    if nat_lt made all then holding history t n (Following made) found given else live_tree history None ∷ resting_thread t (n + 1) true found given ∷ []

-- the next op of a thread after a turn of its access
abbrev pub op_after : ℕ → Result Reached ℕ → ℕ
op_after n (Ok r) = n + 1
op_after n (Err epoch) = n

-- The next op of a thread is an access of this task and CPU.
pub record IsBeforeAccess (script : ScriptValue) (table : TableId) (task cpu : ℕ) (s : SeenValue) (worker : ShareValue Part) : Type 0 where
  pub n : ℕ
  pub addr : ℕ
  pub resting : IsResting table s.thread n true worker
  pub is : op_at script s.thread n ≡ Some (Access task cpu addr)

-- The next look of the command that holds the tree counts an RMID in slice i.
pub record IsNextCount (script : ScriptValue) (table : TableId) (i n rmid : ℕ) (history : JournalValue TreeEntry) (s : SeenValue) (worker : ShareValue Part) : Type 0 where
  pub op : Op
  pub found : List ℕ
  pub given : Option GivenTag
  pub share : IsShareOf table (holding (list_of history.entries) s.thread n (Looking (length found)) found given) worker
  pub is : op_at script s.thread n ≡ Some op
  pub distinct : AreDistinct (pairs_for script (history_of history.entries) op)
  pub next : At (pairs_for script (history_of history.entries) op) (length found) (i, rmid)

-- The next entry that the decided command owes is that of a follow-up, in slice i. The flag says whether it owes no more.
pub record IsNextFollow (script : ScriptValue) (table : TableId) (i n epoch : ℕ) (f : Follow) (last : Bool) (history : JournalValue TreeEntry) (s : SeenValue) (worker : ShareValue Part) : Type 0 where
  pub op : Op
  pub made : ℕ
  pub position : ℕ
  pub found : List ℕ
  pub given : Option GivenTag
  pub share : IsShareOf table (holding (list_of history.entries) s.thread n (Following made) found given) worker
  pub is : op_at script s.thread n ≡ Some op
  pub decided : epoch ≡ position + 1
  pub next : At (jobs_of script (history_of history.entries) position op) made (record { slice = i; owed = record { epoch = epoch; what = what_of f } })
  pub ends : last ≡ not (nat_lt (made + 1) (length (jobs_of script (history_of history.entries) position op)))

-- An access has its tag, and goes to slice i.
pub record IsTagged (script : ScriptValue) (table : TableId) (i n : ℕ) (tag : Tag) (line : ℕ) (s : SeenValue) (worker : ShareValue Part) : Type 0 where
  pub task : ℕ
  pub cpu : ℕ
  pub addr : ℕ
  pub found : List ℕ
  pub given : Option GivenTag
  pub share : IsShareOf table (live_thread s.thread n (Tagged tag) found given ∷ []) worker
  pub is : op_at script s.thread n ≡ Some (Access task cpu addr)
  pub line_is : line ≡ line_of addr
  pub slice_is : i ≡ slice_of_line script.machine tag.domain (line_of addr)

-- a follow-up has happened to the parts of its thread, whatever the entry was
abbrev pub HasFollowedOn : Bool → ShareValue Part → ShareValue Part → Type 0
HasFollowedOn last old new = (e : SliceEntry) × HasStepped (happenings.Follow e last) old new

-- it has touched, or is to tag again
abbrev pub HasReached : ℕ → ℕ → Tag → ℕ → Option Reached → ShareValue Part → ShareValue Part → Type 0
HasReached t op tag line None old new = HasStepped happenings.Again old new
HasReached t op tag line (Some r) old new = HasStepped (happenings.Touch (entry t op tag.epoch (whats.Access r.hit r.way tag.owner tag.rmid tag.mask line))) old new
