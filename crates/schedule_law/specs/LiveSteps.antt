-- What is known of the parts at hand when a command or an access of a live thread takes a step, whatever the others are.
use Rattle.std.specs.Prelude.{IsTrue, List, None, Some, Bool, not, Option, [], length, map, nat_lt, slice_get, ℕ, ◌++◌, ◌+◌, ◌*◌, ◌^◌, ◌<◌, ◌∷◌, ◌≡◌, ◌≤◌}
use Rattle.cache_core.specs.History.{IsLegal, floor_of}
use Rattle.cache_core.specs.declared.entry.SliceEntry.{SliceEntry}
use Rattle.cache_core.specs.declared.entry.What.TheVariants as whats
use Rattle.machine.specs.Maps.{line_of}
use Rattle.machine.specs.Slices.{slice_count, slice_of_line}
use Rattle.rc_base.specs.declared.names.Tag.{Tag}
use Rattle.run_law.specs.Entries.{entry_value}
use Rattle.run_law.specs.FoundLooks.{AreDistinct, found_at, pairs_for}
use Rattle.run_law.specs.Growth.{tag_of}
use Rattle.run_law.specs.Jobs.{Job, jobs_of}
use Rattle.run_law.specs.Journals.{At}
use Rattle.run_law.specs.Ops.{is_command}
use Rattle.run_law.specs.Owed.{paid_by}
use Rattle.run_law.specs.Slices.{shape_in}
use Rattle.run_law.specs.TreeHistory.{CommandMayFollow, TreeEntryValue, tree_after}
use Rattle.run_law.specs.declared.journals.TreeEntry.{TreeEntry}
use Rattle.script_ops.specs.Values.{ScriptValue, op_at}
use Rattle.script_ops.specs.declared.op.Op.{Op}
use Rattle.script_ops.specs.declared.op.Op.TheVariants.{Access}
use Rattle.step_world.specs.declared.thread_state.ThreadState.TheVariants.{Ready, Looking, Following, Tagged}
use Rattle.tree_law.specs.Steps.{needs}
use Rattle.schedule_law.specs.Law.{owed_by_tag}
use Rattle.schedule_law.specs.LiveParts.{live_slice, live_thread, live_tree, resting_thread}
use Rattle.schedule_law.specs.declared.part.GivenTag.{GivenTag}
use Rattle.schedule_law.specs.declared.part.Part.{Part}

-- the tree's history, as the law has it
abbrev pub values : List TreeEntry → List TreeEntryValue
values history = map entry_value history

-- slice i may have this entry next
pub record HasPlace (script : ScriptValue) (slice : List (ℕ × Part)) (i : ℕ) (e : SliceEntry) : Type 0 where
  pub list : List SliceEntry
  pub slice_is : slice ≡ live_slice i list ∷ []
  pub within : i < slice_count script.machine
  pub legal : IsLegal (shape_in script.machine i) (list ++ e ∷ [])

-- ---- a command

-- The tree is free, and the thread's next op is a command.
pub record MayTake (script : ScriptValue) (tree worker : List (ℕ × Part)) (t epoch : ℕ) : Type 0 where
  pub some : 0 < script.machine.slices
  pub n : ℕ
  pub op : Op
  pub history : List TreeEntry
  pub found : List ℕ
  pub given : Option GivenTag
  pub tree_is : tree ≡ live_tree history None ∷ []
  pub worker_is : worker ≡ live_thread t n Ready found given ∷ []
  pub epoch_is : epoch ≡ length history
  pub few : epoch < 2 ^ 62
  pub is : op_at script t n ≡ Some op
  pub command : IsTrue (is_command op)

-- Its command holds the tree, and its next look counts these lines of an RMID in slice i.
pub record MayLook (script : ScriptValue) (slice worker : List (ℕ × Part)) (e : SliceEntry) : Type 0 where
  pub some : 0 < script.machine.slices
  pub i : ℕ
  pub rmid : ℕ
  pub lines : ℕ
  pub op : Op
  pub history : List TreeEntry
  pub found : List ℕ
  pub given : Option GivenTag
  pub worker_is : worker ≡ live_tree history (Some e.thread) ∷ live_thread e.thread e.op (Looking (length found)) found given ∷ []
  pub is : op_at script e.thread e.op ≡ Some op
  pub distinct : AreDistinct (pairs_for script (values history) op)
  pub next : At (pairs_for script (values history) op) (length found) (i, rmid)
  pub epoch : e.epoch ≡ length history
  pub what : e.what ≡ whats.Look rmid lines
  pub place : HasPlace script slice i e

-- Its command has made all its looks, and this entry has the sums of what they found. The flag says whether nothing follows it.
pub record MayDecide (script : ScriptValue) (worker : List (ℕ × Part)) (h : TreeEntry) (last : Bool) (made epoch : ℕ) : Type 0 where
  pub some : 0 < script.machine.slices
  pub op : Op
  pub history : List TreeEntry
  pub found : List ℕ
  pub given : Option GivenTag
  pub worker_is : worker ≡ live_tree history (Some h.thread) ∷ live_thread h.thread h.op (Looking made) found given ∷ []
  pub is : op_at script h.thread h.op ≡ Some op
  pub may : CommandMayFollow script (values history) (entry_value h)
  pub epoch_is : epoch ≡ length history
  pub few : epoch + 1 < 2 ^ 62
  pub made_is : made ≡ length found
  pub all : made ≡ length (needs script.machine (tree_after script (values history)) op) * script.machine.slices
  pub count : length (entry_value h).looks ≡ length (needs script.machine (tree_after script (values history)) op)
  pub each :
      (q : ℕ) → q < length (needs script.machine (tree_after script (values history)) op)
      → slice_get (entry_value h).looks q ≡ Some (found_at script.machine.slices found q script.machine.slices)
  pub ends : last ≡ not (nat_lt made (length (jobs_of script (values history) (length history) op)))

-- Its command is decided, as the last of the tree's history, and this is the next entry that it owes. The flag says whether it owes
-- no more.
pub record MayFollow (script : ScriptValue) (slice worker : List (ℕ × Part)) (e : SliceEntry) (last : Bool) : Type 0 where
  pub some : 0 < script.machine.slices
  pub position : ℕ
  pub made : ℕ
  pub op : Op
  pub history : List TreeEntry
  pub found : List ℕ
  pub given : Option GivenTag
  pub job : Job
  pub worker_is : worker ≡ live_tree history (Some e.thread) ∷ live_thread e.thread e.op (Following made) found given ∷ []
  pub is : op_at script e.thread e.op ≡ Some op
  pub decided : length history ≡ position + 1
  pub epoch_is : e.epoch ≡ length history
  pub few : e.epoch < 2 ^ 62
  pub next : At (jobs_of script (values history) position op) made job
  pub pays : paid_by e ≡ job.owed
  pub ends : last ≡ not (nat_lt (made + 1) (length (jobs_of script (values history) position op)))
  pub place : HasPlace script slice job.slice e

-- The tree is let go.
pub record MayLetGo (tree worker : List (ℕ × Part)) : Type 0 where
  pub t : ℕ
  pub n : ℕ
  pub begun : Bool
  pub history : List TreeEntry
  pub found : List ℕ
  pub given : Option GivenTag
  pub tree_is : tree ≡ []
  pub worker_is : worker ≡ live_tree history None ∷ resting_thread t n begun found given ∷ []

-- ---- an access

-- The tree is free, the thread's next op is an access, and this is what the tree gives to it.
pub record MayTag (script : ScriptValue) (tree worker : List (ℕ × Part)) (g : GivenTag) : Type 0 where
  pub some : 0 < script.machine.slices
  pub t : ℕ
  pub n : ℕ
  pub addr : ℕ
  pub history : List TreeEntry
  pub found : List ℕ
  pub given : Option GivenTag
  pub tree_is : tree ≡ live_tree history None ∷ []
  pub worker_is : worker ≡ live_thread t n Ready found given ∷ []
  pub is : op_at script t n ≡ Some (Access g.task g.cpu addr)
  pub tag_is : g.tag ≡ tag_of script.machine (tree_after script (values history)) (length history) g.task g.cpu

-- The thread's next op is an access of the task and the CPU for which it was given its last tag. Its share has no part of the tree.
pub record MayRecall (script : ScriptValue) (worker : List (ℕ × Part)) (g : GivenTag) : Type 0 where
  pub some : 0 < script.machine.slices
  pub t : ℕ
  pub n : ℕ
  pub addr : ℕ
  pub found : List ℕ
  pub worker_is : worker ≡ live_thread t n Ready found (Some g) ∷ []
  pub is : op_at script t n ≡ Some (Access g.task g.cpu addr)
  pub few : g.tag.epoch < 2 ^ 62

-- It has a tag that is not stale, and this is what it enters. Neither share has a part of the tree.
pub record MayTouch (script : ScriptValue) (slice worker : List (ℕ × Part)) (e : SliceEntry) : Type 0 where
  pub some : 0 < script.machine.slices
  pub task : ℕ
  pub cpu : ℕ
  pub addr : ℕ
  pub tag : Tag
  pub found : List ℕ
  pub given : Option GivenTag
  pub worker_is : worker ≡ live_thread e.thread e.op (Tagged tag) found given ∷ []
  pub is : op_at script e.thread e.op ≡ Some (Access task cpu addr)
  pub pays : paid_by e ≡ owed_by_tag tag addr
  pub place : HasPlace script slice (slice_of_line script.machine tag.domain (line_of addr)) e
  pub fresh : floor_of place.list ≤ tag.epoch

-- It has a tag that is stale in the slice that it goes to.
pub record MayTagAgain (script : ScriptValue) (slice worker : List (ℕ × Part)) : Type 0 where
  pub some : 0 < script.machine.slices
  pub t : ℕ
  pub n : ℕ
  pub task : ℕ
  pub cpu : ℕ
  pub addr : ℕ
  pub tag : Tag
  pub list : List SliceEntry
  pub found : List ℕ
  pub given : Option GivenTag
  pub slice_is : slice ≡ live_slice (slice_of_line script.machine tag.domain (line_of addr)) list ∷ []
  pub worker_is : worker ≡ live_thread t n (Tagged tag) found given ∷ []
  pub is : op_at script t n ≡ Some (Access task cpu addr)
  pub stale : tag.epoch < floor_of list
