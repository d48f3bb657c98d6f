-- Before the first op.
-- (For functions and proofs: no promise of the program stands on it.)
use Rattle.std.specs.Prelude.{◌≡◌, ℕ, ◌+◌, ◌-◌, ◌<◌, ◌≤◌, false, List, [], ◌∷◌, drop, length, min, slice_index_or}
use Rattle.atomic_table.specs.Seated.{TableId}
use Rattle.cache_core.specs.declared.entry.SliceEntry.{SliceEntry}
use Rattle.live_run.specs.Cells.{SliceCellValue, SliceIsKept, pass_in}
use Rattle.live_run.specs.Logs.{LogValue, log_at}
use Rattle.live_run.specs.Names.{PassesValue, name_at}
use Rattle.live_run.specs.Phases.{passes_at}
use Rattle.live_run.specs.Sharing.{IsShareOf}
use Rattle.machine.specs.Slices.{slice_count}
use Rattle.run_law.specs.declared.journals.TreeEntry.{TreeEntry}
use Rattle.schedule_law.specs.LiveParts.{live_slice}
use Rattle.schedule_law.specs.declared.part.Part.{Part}
use Rattle.script_ops.specs.Values.{ScriptValue}
use Rattle.seen_journal.specs.Journals.{JournalName}
use Rattle.seen_journal.specs.Passes.{PassValue, new_pass}
use Rattle.shared_parts.specs.Parts.{first_of, has}
use Rattle.shared_parts.specs.Shares.{ShareValue}

-- ---- passes of the journals

-- A journal has given its next pass.
pub record HasGiven {E : Type 0} (old new : LogValue) (p : PassValue E) : Type 0 where
  pub pass_is : p ≡ new_pass old.name (length old.name.quotas - old.left)
  pub name : new.name ≡ old.name
  pub left : new.left + 1 ≡ old.left

-- The first n journals have given their next passes.
pub record HaveGiven (n : ℕ) (old new : List LogValue) (passes : List (PassValue SliceEntry)) : Type 0 where
  pub count : length new ≡ length old
  pub passes_count : length passes ≡ n
  pub given : (i : ℕ) → i < n → HasGiven (log_at old i) (log_at new i) (pass_in passes i)
  pub rest : (i : ℕ) → n ≤ i → log_at new i ≡ log_at old i

-- These are a thread's passes of the journals of n slices, which have seen nothing.
pub record AreNew (slices : List JournalName) (n thread : ℕ) (passes : List (PassValue SliceEntry)) : Type 0 where
  pub count : length passes ≡ n
  pub each : (i : ℕ) → i < n → pass_in passes i ≡ new_pass (name_at slices i) thread

-- ---- shares

-- no two of these parts have one number
abbrev pub AreNumbered : List (ℕ × Part) → Type 0
AreNumbered [] = Unit {0}
AreNumbered (x ∷ xs) = (has x.0 xs ≡ false) × AreNumbered xs

-- The first n parts of a share are shares of their own, in order.
pub record AreSplit (n : ℕ) (old new : ShareValue Part) (shares : List (ShareValue Part)) : Type 0 where
  pub count : length shares ≡ n
  pub table : new.table ≡ old.table
  pub tables : (k : ℕ) (d : ShareValue Part) → k < n → (slice_index_or shares k d).table ≡ old.table
  pub each : (k : ℕ) (d : ShareValue Part) → k < n → (slice_index_or shares k d).parts ≡ first_of (drop k old.parts)
  pub rest : new.parts ≡ drop n old.parts

-- ---- cells of slices

-- The first n journals are of slices.
pub record AreOfSlices (slices : List JournalName) (n : ℕ) (logs : List LogValue) : Type 0 where
  pub count : length logs ≡ n
  pub names : (i : ℕ) → i < n → (log_at logs i).name ≡ name_at slices i

-- what goes into a cell, by its place in a list
abbrev pub part_at : List SliceCellValue → ℕ → SliceCellValue → SliceCellValue
part_at parts k d = slice_index_or parts k d

-- These shares have the parts of the first n slices, which are empty.
pub record AreFirstShares (table : TableId) (n : ℕ) (shares : List (ShareValue Part)) : Type 0 where
  pub count : length shares ≡ n
  pub each : (i : ℕ) (d : ShareValue Part) → i < n → IsShareOf table (live_slice i [] ∷ []) (slice_index_or shares i d)

-- What goes into the cells of the slices from one on, the last slice first.
pub record AreParts (script : ScriptValue) (table : TableId) (tree : JournalName) (slices : List JournalName) (first : ℕ) (parts : List SliceCellValue) : Type 0 where
  pub count : length parts ≡ slice_count script.machine - first
  pub each : (k i : ℕ) (d : SliceCellValue) → k < length parts → i + k + 1 ≡ slice_count script.machine → SliceIsKept script table tree (name_at slices i) i (part_at parts k d)

-- What was in the cells of the slices before one, in order, when each had seen this whole history of the tree.
pub record AreSettled (script : ScriptValue) (table : TableId) (tree : JournalName) (slices : List JournalName) (history : List (ℕ × TreeEntry)) (upto : ℕ) (parts : List SliceCellValue) : Type 0 where
  pub count : length parts ≡ min upto (slice_count script.machine)
  pub kept : (i : ℕ) (d : SliceCellValue) → i < length parts → SliceIsKept script table tree (name_at slices i) i (part_at parts i d)
  pub seen : (i : ℕ) (d : SliceCellValue) → i < length parts → (part_at parts i d).tree.seen ≡ history

-- ---- threads

-- A thread is before its first op, and no text is shown.
pub record IsFirst (t : ℕ) (p : PassesValue) : Type 0 where
  pub thread : p.seen.thread ≡ t
  pub fresh : p.next ≡ 0
  pub shown : p.shown ≡ []

-- so are the first n threads
pub record AreFirst (n : ℕ) (ps : List PassesValue) : Type 0 where
  pub count : length ps ≡ n
  pub each : (t : ℕ) → t < n → IsFirst t (passes_at ps t)

-- Each journal has given its passes to the first t of so many threads.
pub record AreGivenTo (script : ScriptValue) (tree : JournalName) (slices : List JournalName) (threads t : ℕ) (log : LogValue) (logs : List LogValue) : Type 0 where
  pub tree_is : log.name ≡ tree
  pub tree_left : log.left + t ≡ threads + slice_count script.machine
  pub slices_are : AreOfSlices slices (slice_count script.machine) logs
  pub left : (i : ℕ) → i < slice_count script.machine → (log_at logs i).left + t ≡ threads + 1
