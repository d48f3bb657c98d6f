-- What a thread has after each step of a command and of an access.
-- (For functions and proofs: no promise of the program stands on it.)
use Rattle.std.specs.Prelude.{◌≡◌, ℕ, ◌+◌, ◌<◌, ◌≤◌, IsTrue, List, [], ◌∷◌, ◌++◌, length, Some}
use Rattle.cache_core.specs.declared.entry.SliceEntry.{SliceEntry}
use Rattle.rc_base.specs.declared.names.Tag.{Tag}
use Rattle.run_law.specs.Growth.{PaysJob, tag_of}
use Rattle.run_law.specs.Jobs.{Job, jobs_of}
use Rattle.run_law.specs.Journals.{At, JournalsValue}
use Rattle.run_law.specs.Ops.{is_command}
use Rattle.run_law.specs.Owed.{paid_by}
use Rattle.run_law.specs.TreeHistory.{IsLegalTree, TreeEntryValue, tree_after}
use Rattle.script_ops.specs.Values.{IsLawful, ScriptValue, op_at}
use Rattle.script_ops.specs.declared.op.Op.{Op}
use Rattle.script_ops.specs.declared.op.Op.TheVariants.{Access}
use Rattle.tree_law.specs.Steps.{needs}
use Rattle.live_law.specs.Cells.{AreMade}
use Rattle.live_law.specs.Passes.{PassesKeepFrom}
use Rattle.live_law.specs.SeenJournals.{AddsEntry, HasGrown, SeesMore}
use Rattle.live_law.specs.Stages.{HoldsTag, IsFollowing, IsLooking, IsNextLook, WasGiven, owed_by_tag, slice_reached}

-- ---- a command

-- it has taken the tree, whose history is legal, and whose commands have all made what they owe: it may look
abbrev pub AfterTake : Type 0
AfterTake =
    (script : ScriptValue) (start : JournalsValue) (t n : ℕ) (c : Op) (v : JournalsValue)
    → IsLawful script → op_at script t n ≡ Some c → IsTrue (is_command c)
    → IsLegalTree script v.tree → AreMade script v (length v.tree) → PassesKeepFrom script start t n n n v
    → IsLooking script start t n c [] v

-- it has looked once more
abbrev pub AfterLook : Type 0
AfterLook =
    (script : ScriptValue) (start : JournalsValue) (t n : ℕ) (c : Op) (found : List ℕ) (v : JournalsValue)
    (slices : List (List SliceEntry)) (pair : ℕ × ℕ) (lines : ℕ) (e : SliceEntry)
    → IsNextLook script t n c found v.tree pair lines e → AddsEntry t pair.0 e v (record { tree = v.tree; slices = slices })
    → IsLooking script start t n c found v
    → IsLooking script start t n c (found ++ lines ∷ []) (record { tree = v.tree; slices = slices })

-- it was decided, with what its looks counted
abbrev pub AfterDecide : Type 0
AfterDecide =
    (script : ScriptValue) (start : JournalsValue) (t n : ℕ) (c : Op) (found : List ℕ) (v : JournalsValue) (h : TreeEntryValue)
    → h.thread ≡ t → h.op ≡ n → WasGiven script v h (needs script.machine (tree_after script v.tree) c)
    → IsLooking script start t n c found v
    → IsFollowing script start t n (length v.tree) c h (length found) (record { tree = v.tree ++ h ∷ []; slices = v.slices })

-- the next entry that follows it was made
abbrev pub AfterFollow : Type 0
AfterFollow =
    (script : ScriptValue) (start : JournalsValue) (t n k : ℕ) (c : Op) (h : TreeEntryValue) (made : ℕ) (v : JournalsValue)
    (slices : List (List SliceEntry)) (job : Job) (e : SliceEntry)
    → At (jobs_of script v.tree k c) made job → PaysJob t n job e → AddsEntry t job.slice e v (record { tree = v.tree; slices = slices })
    → IsFollowing script start t n k c h made v
    → IsFollowing script start t n k c h (made + 1) (record { tree = v.tree; slices = slices })

-- it lets the tree go when it has made all that it owes: then it is done
abbrev pub AfterLettingGo : Type 0
AfterLettingGo =
    (script : ScriptValue) (start : JournalsValue) (t n k : ℕ) (c : Op) (h : TreeEntryValue) (v : JournalsValue)
    → 0 < script.machine.slices → IsFollowing script start t n k c h (length (jobs_of script v.tree k c)) v
    → PassesKeepFrom script start t (n + 1) (n + 1) (n + 1) v

-- ---- an access

-- what the tree gives, when all its commands have made what they owe, is a tag
abbrev pub AfterTag : Type 0
AfterTag =
    (script : ScriptValue) (v : JournalsValue) (task cpu : ℕ) → AreMade script v (length v.tree)
    → HoldsTag script v task cpu (tag_of script.machine (tree_after script v.tree) (length v.tree) task cpu)

-- it stays one when its thread sees more
abbrev pub TagStays : Type 0
TagStays =
    (script : ScriptValue) (v w : JournalsValue) (task cpu : ℕ) (tag : Tag) → HasGrown v w → HoldsTag script v task cpu tag
    → HoldsTag script w task cpu tag

-- The access is done when the entry of a tag was made whose epoch is none of before the access, however often the thread has
-- taken a tag.
abbrev pub AfterTouch : Type 0
AfterTouch =
    (script : ScriptValue) (start : JournalsValue) (t n task cpu addr : ℕ) (tag : Tag) (old v w : JournalsValue) (e : SliceEntry)
    → PassesKeepFrom script start t n n n old → SeesMore t old v → HoldsTag script v task cpu tag → length old.tree ≤ tag.epoch
    → op_at script t n ≡ Some (Access task cpu addr) → e.thread ≡ t → e.op ≡ n → paid_by e ≡ owed_by_tag tag addr
    → AddsEntry t (slice_reached script.machine cpu addr) e v w
    → PassesKeepFrom script start t (n + 1) (n + 1) (n + 1) w
