-- What may happen to the parts that a live thread has, whatever the other parts are.
use Rattle.std.specs.Prelude.{IsTrue, List, None, Option, Some, true, false, Bool, not, [], length, nat_lt, slice_get, ℕ, ◌+◌, ◌*◌, ◌<◌, ◌∷◌, ◌≡◌, ◌≤◌}
use Rattle.cache_core.specs.History.{EntryMayFollow, floor_of}
use Rattle.cache_core.specs.declared.entry.SliceEntry.{SliceEntry}
use Rattle.cache_core.specs.declared.entry.What.TheVariants as whats
use Rattle.machine.specs.Maps.{line_of}
use Rattle.machine.specs.Slices.{slice_count, slice_of_line}
use Rattle.rc_base.specs.declared.names.Tag.{Tag}
use Rattle.run_law.specs.Growth.{PaysJob, tag_of}
use Rattle.run_law.specs.Jobs.{Job, jobs_of, looks_of}
use Rattle.run_law.specs.Journals.{At, JournalsValue, slice_at}
use Rattle.run_law.specs.Quotas.{room_of}
use Rattle.run_law.specs.FoundLooks.{AreDistinct, found_at, pairs_for}
use Rattle.run_law.specs.Ops.{is_command, phase_in}
use Rattle.run_law.specs.Owed.{Owed}
use Rattle.run_law.specs.Slices.{shape_in}
use Rattle.run_law.specs.TreeHistory.{CommandMayFollow, TreeEntryValue, tree_after}
use Rattle.script_ops.specs.Values.{IsLawful, ScriptValue, op_at}
use Rattle.script_ops.specs.declared.op.Op.{Op}
use Rattle.script_ops.specs.declared.op.Op.TheVariants.{Access}
use Rattle.step_world.specs.declared.thread_state.ThreadState.TheVariants.{Ready, Looking, Following, Tagged}
use Rattle.tree_law.specs.Steps.{needs}
use Rattle.schedule_law.specs.Parts.{Again, AreReached, Begin, Decide, End, Follow, Label, Look, PartValue, Pass, Take, Touch, opening_parts, part_after, phase_part, shown_of, slice_part, thread_part, tree_part}
use Rattle.schedule_law.specs.declared.part.GivenTag.{GivenTag}
use Rattle.schedule_law.specs.Schedules.{IsScheduled}
use Rattle.step_world.specs.Schedules.{HasEnded}
use Rattle.step_world.specs.declared.thread_state.Thread.{Thread}
use Rattle.shared_parts.specs.Parts.{Fits, MayHappen, MayHappenWhere}

-- what an access of an address owes by its tag
abbrev pub owed_by_tag : Tag → ℕ → Owed
owed_by_tag tag addr = record { epoch = tag.epoch; what = whats.Access false 0 tag.owner tag.rmid tag.mask (line_of addr) }

-- the tree is free: a command takes it
abbrev pub TakeMayHappen : ScriptValue → Type 0
TakeMayHappen script =
    (t n : ℕ) (op : Op) (history : List TreeEntryValue) (found : List ℕ) (given : Option GivenTag) → op_at script t n ≡ Some op → IsTrue (is_command op)
    → MayHappen (AreReached script) part_after (Take t) (tree_part history None ∷ thread_part t (record { next = n; state = Ready }) true found given ∷ [])

-- its next look counts what is in a slice
abbrev pub LookMayHappen : ScriptValue → Type 0
LookMayHappen script =
    (t n : ℕ) (op : Op) (history : List TreeEntryValue) (found : List ℕ) (given : Option GivenTag) (job : Job) (list : List SliceEntry) (e : SliceEntry)
    → op_at script t n ≡ Some op → AreDistinct (pairs_for script history op) → At (looks_of script history (length history) op) (length found) job → PaysJob t n job e
    → job.slice < slice_count script.machine → EntryMayFollow (shape_in script.machine job.slice) list e
    → MayHappen (AreReached script) part_after (Look e)
    (slice_part job.slice list ∷ tree_part history (Some t) ∷ thread_part t (record { next = n; state = Looking (length found) }) true found given ∷ [])

-- it has looked, and is decided, with the sums of what its looks found
abbrev pub DecideMayHappen : ScriptValue → Type 0
DecideMayHappen script =
    (t n : ℕ) (op : Op) (history : List TreeEntryValue) (found : List ℕ) (given : Option GivenTag) (h : TreeEntryValue) (last : Bool)
    → op_at script t n ≡ Some op → length (looks_of script history (length history) op) ≤ length found
    → h.thread ≡ t → h.op ≡ n → CommandMayFollow script history h
    → length found ≡ length (needs script.machine (tree_after script history) op) * script.machine.slices
    → length h.looks ≡ length (needs script.machine (tree_after script history) op)
    → ((q : ℕ) → q < length (needs script.machine (tree_after script history) op) → slice_get h.looks q ≡ Some (found_at script.machine.slices found q script.machine.slices))
    → last ≡ not (nat_lt (length found) (length (jobs_of script history (length history) op)))
    → MayHappen (AreReached script) part_after (Decide h last (length found))
    (tree_part history (Some t) ∷ thread_part t (record { next = n; state = Looking (length found) }) true found given ∷ [])

-- what follows it is done in a slice
abbrev pub FollowMayHappen : ScriptValue → Type 0
FollowMayHappen script =
    (t n made position : ℕ) (op : Op) (history : List TreeEntryValue) (job : Job) (list : List SliceEntry) (e : SliceEntry) (last : Bool) (found : List ℕ) (given : Option GivenTag)
    → op_at script t n ≡ Some op → length history ≡ position + 1 → At (jobs_of script history position op) made job → PaysJob t n job e
    → job.slice < slice_count script.machine → EntryMayFollow (shape_in script.machine job.slice) list e
    → last ≡ not (nat_lt (made + 1) (length (jobs_of script history position op)))
    → MayHappen (AreReached script) part_after (Follow e last)
    (slice_part job.slice list ∷ tree_part history (Some t) ∷ thread_part t (record { next = n; state = Following made }) true found given ∷ [])

-- the tree is free: an access learns its tag
abbrev pub LabelMayHappen : ScriptValue → Type 0
LabelMayHappen script =
    (t n task cpu addr : ℕ) (history : List TreeEntryValue) (found : List ℕ) (given : Option GivenTag) → op_at script t n ≡ Some (Access task cpu addr)
    → MayHappen (AreReached script) part_after (Label (record { task = task; cpu = cpu; tag = tag_of script.machine (tree_after script history) (length history) task cpu }))
    (tree_part history None ∷ thread_part t (record { next = n; state = Ready }) true found given ∷ [])

-- The first word shows that nobody holds the tree, and that it has taken no command since it gave the thread its last tag: an access
-- of that task on that CPU learns it again. The thread has no part of the tree.
abbrev pub RecallMayHappen : ScriptValue → Type 0
RecallMayHappen script =
    (t n addr : ℕ) (g : GivenTag) (found : List ℕ) → op_at script t n ≡ Some (Access g.task g.cpu addr)
    → MayHappenWhere (AreReached script) shown_of part_after (Label g) (2 * g.tag.epoch) (thread_part t (record { next = n; state = Ready }) true found (Some g) ∷ [])

-- its tag is fresh: it touches, and the thread has no part of the tree
abbrev pub TouchMayHappen : ScriptValue → Type 0
TouchMayHappen script =
    (t n task cpu addr : ℕ) (tag : Tag) (list : List SliceEntry) (e : SliceEntry) (found : List ℕ) (given : Option GivenTag)
    → op_at script t n ≡ Some (Access task cpu addr) → floor_of list ≤ tag.epoch
    → PaysJob t n (record { slice = slice_of_line script.machine tag.domain (line_of addr); owed = owed_by_tag tag addr }) e
    → slice_of_line script.machine tag.domain (line_of addr) < slice_count script.machine
    → EntryMayFollow (shape_in script.machine (slice_of_line script.machine tag.domain (line_of addr))) list e
    → MayHappen (AreReached script) part_after (Touch e)
    (slice_part (slice_of_line script.machine tag.domain (line_of addr)) list ∷ thread_part t (record { next = n; state = Tagged tag }) true found given ∷ [])

-- its tag is stale: it is to tag again
abbrev pub AgainMayHappen : ScriptValue → Type 0
AgainMayHappen script =
    (t n task cpu addr : ℕ) (tag : Tag) (list : List SliceEntry) (found : List ℕ) (given : Option GivenTag)
    → op_at script t n ≡ Some (Access task cpu addr) → tag.epoch < floor_of list
    → MayHappen (AreReached script) part_after Again
    (slice_part (slice_of_line script.machine tag.domain (line_of addr)) list ∷ thread_part t (record { next = n; state = Tagged tag }) true found given ∷ [])

-- the phase of a thread is found to have begun
abbrev pub BeginMayHappen : ScriptValue → Type 0
BeginMayHappen script =
    (p ended t : ℕ) (v : Thread) (begun : Bool) (found : List ℕ) (given : Option GivenTag) → phase_in script.phases t ≤ p
    → MayHappen (AreReached script) part_after Begin (phase_part p ended ∷ thread_part t v begun found given ∷ [])

-- a thread is found to be at its end, after all threads before it
abbrev pub EndMayHappen : ScriptValue → Type 0
EndMayHappen script =
    (p t : ℕ) (v : Thread) (begun : Bool) (found : List ℕ) (given : Option GivenTag) → HasEnded script t v
    → MayHappen (AreReached script) part_after End (phase_part p t ∷ thread_part t v begun found given ∷ [])

-- all threads of a phase were found to be at their ends: the next one begins
abbrev pub PassMayHappen : ScriptValue → Type 0
PassMayHappen script =
    (p ended : ℕ) → ((t : ℕ) → phase_in script.phases t ≡ p → t < ended)
    → MayHappen (AreReached script) part_after Pass (phase_part p ended ∷ [])

pub record AllMayHappen (script : ScriptValue) : Type 0 where
  pub take : TakeMayHappen script
  pub look : LookMayHappen script
  pub decide : DecideMayHappen script
  pub follow : FollowMayHappen script
  pub label : LabelMayHappen script
  pub recall : RecallMayHappen script
  pub touch : TouchMayHappen script
  pub again : AgainMayHappen script
  pub begin : BeginMayHappen script
  pub ends : EndMayHappen script
  pub pass : PassMayHappen script

-- each step that a live thread takes may happen to its parts
abbrev pub StepsMayHappen : Type 0
StepsMayHappen = (script : ScriptValue) → 0 < script.machine.slices → AllMayHappen script

-- ---- the start, room, and the end

-- the parts before the first step are those of a state that is reached
abbrev pub StatesOpen : Type 0
StatesOpen = (script : ScriptValue) → (at : ℕ → PartValue) × AreReached script at × Fits at (opening_parts script)

-- a slice's list has no more entries than its room
abbrev pub SlicesHaveRoom : Type 0
SlicesHaveRoom =
    (script : ScriptValue) (i : ℕ) (list : List SliceEntry) (at : ℕ → PartValue) → IsLawful script → i < slice_count script.machine
    → AreReached script at → Fits at (slice_part i list ∷ []) → length list ≤ room_of script i

-- the parts that are left when the last phase is over have journals that are scheduled
abbrev pub StatesClose : Type 0
StatesClose =
    (script : ScriptValue) (journals : JournalsValue) (holder : Option ℕ) (p ended : ℕ) (at : ℕ → PartValue) → 0 < script.machine.slices → length script.phases ≤ p
    → length journals.slices ≡ slice_count script.machine
    → AreReached script at → Fits at (tree_part journals.tree holder ∷ phase_part p ended ∷ [])
    → ((i : ℕ) → i < slice_count script.machine → Fits at (slice_part i (slice_at journals i) ∷ []))
    → IsScheduled script journals
