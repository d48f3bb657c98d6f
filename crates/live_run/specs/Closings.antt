-- What is made at the end of a run.
-- (For functions and proofs: no promise of the program stands on it.)
use Rattle.std.specs.Prelude.{◌≡◌, ℕ, ◌+◌, ◌<◌, ◌≤◌, All, Contains, List, [], ◌∷◌, ◌++◌, length, slice_index_or, Vec, vec_capacity}
use Rattle.std.specs.declared.alloc.Global.{Global}
use Rattle.cache_core.specs.declared.entry.SliceEntry.{SliceEntry}
use Rattle.live_law.specs.Passes.{PassesKeep}
use Rattle.live_run.specs.Cells.{IsSeen, SliceCellValue, pass_in}
use Rattle.live_run.specs.Names.{PassesValue, pass_at, seen_by}
use Rattle.live_run.specs.Openings.{part_at}
use Rattle.live_run.specs.Phases.{passes_at}
use Rattle.machine.specs.Slices.{slice_count}
use Rattle.run_law.specs.declared.journals.TreeEntry.{TreeEntry}
use Rattle.schedule_law.specs.declared.part.Part.{Part}
use Rattle.script_ops.specs.Values.{ScriptValue, threads_of}
use Rattle.seen_journal.specs.Journals.{JournalName, JournalValue}
use Rattle.seen_journal.specs.Passes.{EachOnce, HasAll, HasSeen, PassValue}
use Rattle.shared_parts.specs.Shares.{ShareValue}

-- These lists are empty, and there are so many, each with room for so many.
pub record AreRoomy {E : Type 0} (n least : ℕ) (lists : List (Vec E Global)) : Type 0 where
  pub count : length lists ≡ n
  pub empty : (i : ℕ) (d : Vec E Global) → i < n → (slice_index_or lists i d).items ≡ []
  pub room : (i : ℕ) (d : Vec E Global) → i < n → least ≤ vec_capacity (slice_index_or lists i d)

-- The room for what goes out of the cells of the slices, for the threads' passes, and for the lists of the slices.
pub record HaveClosingRoom (script : ScriptValue) (parts : Vec SliceCellValue Global) (tree : Vec (PassValue TreeEntry) Global) (slices : Vec (Vec (PassValue SliceEntry) Global) Global) (entries : Vec (Vec SliceEntry Global) Global) : Type 0 where
  pub no_parts : parts.items ≡ []
  pub parts_room : slice_count script.machine ≤ vec_capacity parts
  pub no_tree : tree.items ≡ []
  pub tree_room : length (threads_of script) ≤ vec_capacity tree
  pub slices_are : AreRoomy (slice_count script.machine) (length (threads_of script)) slices.items
  pub no_entries : entries.items ≡ []
  pub entries_room : slice_count script.machine ≤ vec_capacity entries

-- ---- the passes of the threads

-- A thread's passes are of the named journals, and keep what they keep between two ops.
pub record IsThreadKept (script : ScriptValue) (tree : JournalName) (slices : List JournalName) (p : PassesValue) : Type 0 where
  pub seen : IsSeen script tree slices p.seen
  pub keeps : PassesKeep script p.seen.thread p.next (seen_by p.seen)

-- These are the threads' passes of slice i.
pub record AreOfSlice (ps : List PassesValue) (i : ℕ) (passes : List (PassValue SliceEntry)) : Type 0 where
  pub count : length passes ≡ length ps
  pub each : (t : ℕ) → t < length ps → pass_in passes t ≡ pass_at (passes_at ps t).seen i

-- The threads' passes by their journals: those of the tree, and of the slices, those of the last slice first.
pub record AreGathered (script : ScriptValue) (tree : JournalName) (slices : List JournalName) (ps : List PassesValue) (trees : List (PassValue TreeEntry)) (lists : List (Vec (PassValue SliceEntry) Global)) : Type 0 where
  pub kept : (t : ℕ) → t < length ps → IsThreadKept script tree slices (passes_at ps t)
  pub trees_count : length trees ≡ length ps
  pub trees_are : (t : ℕ) (d : PassValue TreeEntry) → t < length ps → slice_index_or trees t d ≡ (passes_at ps t).seen.tree
  pub count : length lists ≡ slice_count script.machine
  pub lists_are : (k i : ℕ) (d : Vec (PassValue SliceEntry) Global) → i + k + 1 ≡ slice_count script.machine → AreOfSlice ps i (slice_index_or lists k d).items

-- The first n lists have each one pass more, the last pass first, and the room that they had.
pub record HaveOneMore (n : ℕ) (passes : List (PassValue SliceEntry)) (lists lists_now : List (Vec (PassValue SliceEntry) Global)) : Type 0 where
  pub count : length lists_now ≡ length lists
  pub more : (k i : ℕ) (d : Vec (PassValue SliceEntry) Global) → k < n → i + k + 1 ≡ length passes → (slice_index_or lists_now k d).items ≡ (slice_index_or lists k d).items ++ pass_in passes i ∷ []
  pub rest : (k : ℕ) (d : Vec (PassValue SliceEntry) Global) → n ≤ k → slice_index_or lists_now k d ≡ slice_index_or lists k d
  pub room : (k : ℕ) (d : Vec (PassValue SliceEntry) Global) → vec_capacity (slice_index_or lists_now k d) ≡ vec_capacity (slice_index_or lists k d)

-- The first n passes have seen the whole lists of the slices, one each, and the others what they had.
pub record HaveSeenEach (n : ℕ) (parts : List SliceCellValue) (passes passes_now : List (PassValue SliceEntry)) : Type 0 where
  pub count : length passes_now ≡ length passes
  pub seen : (i : ℕ) (d : SliceCellValue) → i < n → i < length parts → HasSeen (pass_in passes i) (pass_in passes_now i) (part_at parts i d).journal.entries
  pub rest : (i : ℕ) → n ≤ i → pass_in passes_now i ≡ pass_in passes i

-- ---- the shares

-- A share has taken in those of the first `upto` slices. What goes out of the cells is what it was but for its share.
pub record HaveTakenIn (upto : ℕ) (all all_now : ShareValue Part) (parts parts_now : List SliceCellValue) : Type 0 where
  pub table : all_now.table ≡ all.table
  pub had : (x : ℕ × Part) → Contains all.parts x → Contains all_now.parts x
  pub taken : (i : ℕ) (d : SliceCellValue) (x : ℕ × Part) → i < upto → i < length parts → Contains (part_at parts i d).share.parts x → Contains all_now.parts x
  pub count : length parts_now ≡ length parts
  pub caches : (i : ℕ) (d : SliceCellValue) → i < length parts → (part_at parts_now i d).cache ≡ (part_at parts i d).cache
  pub journals : (i : ℕ) (d : SliceCellValue) → i < length parts → (part_at parts_now i d).journal ≡ (part_at parts i d).journal
  pub passes : (i : ℕ) (d : SliceCellValue) → i < length parts → (part_at parts_now i d).tree ≡ (part_at parts i d).tree
  pub tables : (i : ℕ) (d : SliceCellValue) → i < length parts → (part_at parts_now i d).share.table ≡ (part_at parts i d).share.table

-- ---- the journals

-- These are passes of the journal, each once that may have added to it.
pub record MayClose {E : Type 0} (journal : JournalValue E) (passes : List (PassValue E)) : Type 0 where
  pub names : All (λ (p : PassValue E). p.name ≡ journal.name) passes
  pub once : EachOnce journal.name.quotas passes

-- The journals of slices can be closed with these passes, those of the last slice first.
pub record MayCloseEach (parts : List SliceCellValue) (lists : List (Vec (PassValue SliceEntry) Global)) : Type 0 where
  pub count : length lists ≡ length parts
  pub each : (k i : ℕ) (d : SliceCellValue) (e : Vec (PassValue SliceEntry) Global) → i + k + 1 ≡ length parts → MayClose (part_at parts i d).journal (slice_index_or lists k e).items

-- Each pass has all of its entries in the journal of its slice, of the first n slices.
abbrev pub HaveAll : ℕ → List SliceCellValue → List (Vec (PassValue SliceEntry) Global) → Type 0
HaveAll n parts lists =
    (k i : ℕ) (d : SliceCellValue) (e : Vec (PassValue SliceEntry) Global) → i < n → i + k + 1 ≡ length parts
    → All (HasAll (part_at parts i d).journal.entries) (slice_index_or lists k e).items
