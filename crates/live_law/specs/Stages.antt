-- The stages of an op: a thread is ready for it; its command holds the tree, looks, and follows; its access holds a tag.
-- (For functions and proofs: no promise of the program stands on it.)
use Rattle.std.specs.Prelude.{◌≡◌, ℕ, ◌+◌, ◌<◌, ◌≤◌, false, IsTrue, List, length, map, take, Some}
use Rattle.cache_core.specs.declared.entry.SliceEntry.{SliceEntry}
use Rattle.cache_core.specs.declared.entry.What.TheVariants as whats
use Rattle.machine.specs.Maps.{domain_of, line_of}
use Rattle.machine.specs.Slices.{slice_count, slice_of_line}
use Rattle.machine.specs.declared.parameters.Parameters.{Parameters}
use Rattle.rc_base.specs.declared.names.Tag.{Tag}
use Rattle.run_law.specs.FoundLooks.{AreDistinct, HasFound, pairs_for}
use Rattle.run_law.specs.Growth.{HasMade, tag_of}
use Rattle.run_law.specs.Jobs.{in_slice, jobs_of}
use Rattle.run_law.specs.Journals.{At, JournalsValue}
use Rattle.run_law.specs.Looks.{lines_looked}
use Rattle.run_law.specs.Ops.{is_command}
use Rattle.run_law.specs.Owed.{Owed}
use Rattle.run_law.specs.Quotas.{quota}
use Rattle.run_law.specs.Truth.{is_taken_from}
use Rattle.run_law.specs.TreeHistory.{TreeEntryValue, tree_after}
use Rattle.script_ops.specs.Values.{ScriptValue, op_at}
use Rattle.script_ops.specs.declared.op.Op.{Op}
use Rattle.tree_law.specs.Steps.{needs}
use Rattle.live_law.specs.Cells.{AreMade}
use Rattle.live_law.specs.DoneOps.{AreEnded}
use Rattle.live_law.specs.Passes.{PassesKeepFrom}
use Rattle.live_law.specs.SeenJournals.{taken_in}

-- what a thread has at the beginning of op n: a start at which all threads of earlier phases had ended
pub record IsReady (script : ScriptValue) (t n : ℕ) (v : JournalsValue) : Type 0 where
  pub start : JournalsValue
  pub ended : AreEnded script start t
  pub keeps : PassesKeepFrom script start t n n n v

-- ---- a command

-- Op n of a thread is a command that holds the tree, at position k of its history. It has made so many of the entries that it
-- owes, which are within its quota in each slice, and all commands before it have made all of theirs.
pub record HoldsTree (script : ScriptValue) (start : JournalsValue) (t n taken k : ℕ) (c : Op) (made : ℕ) (v : JournalsValue) : Type 0 where
  pub is_op : op_at script t n ≡ Some c
  pub command : IsTrue (is_command c)
  pub keeps : PassesKeepFrom script start t n taken (n + 1) v
  pub has : (i : ℕ) → i < slice_count script.machine → HasMade script v i t n k c made
  pub few : (i : ℕ) → i < slice_count script.machine → length (in_slice i (jobs_of script v.tree k c)) ≤ quota script.machine i c
  pub others : AreMade script v k

-- the command is not decided yet, and its looks so far found these numbers
pub record IsLooking (script : ScriptValue) (start : JournalsValue) (t n : ℕ) (c : Op) (found : List ℕ) (v : JournalsValue) : Type 0 where
  pub holds : HoldsTree script start t n n (length v.tree) c (length found) v
  pub found_are : HasFound v t n (pairs_for script v.tree c) found

-- what is known when a command looks: the next pair, the lines that were counted, and the entry
pub record IsNextLook (script : ScriptValue) (t n : ℕ) (c : Op) (found : List ℕ) (tree : List TreeEntryValue) (pair : ℕ × ℕ)
    (lines : ℕ) (e : SliceEntry) : Type 0 where
  pub next : At (pairs_for script tree c) (length found) pair
  pub distinct : AreDistinct (pairs_for script tree c)
  pub thread : e.thread ≡ t
  pub number : e.op ≡ n
  pub epoch : e.epoch ≡ length tree
  pub what : e.what ≡ whats.Look pair.1 lines

-- a command was given what its looks for these (domain, RMID) counted
abbrev pub WasGiven : ScriptValue → JournalsValue → TreeEntryValue → List (ℕ × ℕ) → Type 0
WasGiven script v h pairs = map (λ x. Some x) h.looks ≡ map (lines_looked script v h) pairs

-- the command was decided, as the entry h of the tree's history, and was given what its looks counted
pub record IsFollowing (script : ScriptValue) (start : JournalsValue) (t n k : ℕ) (c : Op) (h : TreeEntryValue) (made : ℕ)
    (v : JournalsValue) : Type 0 where
  pub holds : HoldsTree script start t n (n + 1) k c made v
  pub there : At v.tree k h
  pub is : IsTrue (is_taken_from t n h)
  pub once : length (taken_in v t n) ≡ 1
  pub given : WasGiven script v h (needs script.machine (tree_after script (take k v.tree)) c)

-- ---- an access

-- what the tree of a tag's epoch gives to a task and a CPU, where all commands before that epoch had made what they owe
pub record HoldsTag (script : ScriptValue) (v : JournalsValue) (task cpu : ℕ) (tag : Tag) : Type 0 where
  pub within : tag.epoch ≤ length v.tree
  pub is : tag ≡ tag_of script.machine (tree_after script (take tag.epoch v.tree)) tag.epoch task cpu
  pub others : AreMade script v tag.epoch

-- the slice that an access goes to: that of its line, in the domain of its CPU
abbrev pub slice_reached : Parameters → ℕ → ℕ → ℕ
slice_reached m cpu addr = slice_of_line m (domain_of m cpu) (line_of addr)

-- what an access of an address owes by its tag
abbrev pub owed_by_tag : Tag → ℕ → Owed
owed_by_tag tag addr = record { epoch = tag.epoch; what = whats.Access false 0 tag.owner tag.rmid tag.mask (line_of addr) }
