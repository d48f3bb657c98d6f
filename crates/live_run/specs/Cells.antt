-- What the locks keep, and what a thread's passes keep at every moment.
-- (For functions and proofs: no promise of the program stands on it.)
use Rattle.std.specs.Prelude.{◌≡◌, ℕ, ◌<◌, ◌^◌, List, [], ◌∷◌, None, length, map, slice_index_or}
use Rattle.atomic_table.specs.Seated.{TableId}
use Rattle.cache_core.specs.Places.{CacheValue}
use Rattle.cache_core.specs.Stands.{StandsFor}
use Rattle.cache_core.specs.declared.entry.SliceEntry.{SliceEntry}
use Rattle.live_law.specs.Cells.{SliceKeeps, TreeKeeps}
use Rattle.live_run.specs.Names.{SeenValue, history_of, name_at, no_pass, pass_at}
use Rattle.live_run.specs.Quotas.{HaveQuotas}
use Rattle.live_run.specs.Sharing.{IsShareOf}
use Rattle.machine.specs.Slices.{slice_count}
use Rattle.machine.specs.declared.parameters.Parameters.{Parameters}
use Rattle.run_law.specs.Journals.{At, JournalsValue}
use Rattle.run_law.specs.Slices.{shape_in}
use Rattle.run_law.specs.declared.journals.TreeEntry.{TreeEntry}
use Rattle.schedule_law.specs.LiveParts.{live_slice, live_tree}
use Rattle.schedule_law.specs.declared.part.Part.{Part}
use Rattle.script_ops.specs.Values.{IsLawful, ScriptValue}
use Rattle.seen_journal.specs.Entries.{list_of}
use Rattle.seen_journal.specs.Journals.{JournalName, JournalValue}
use Rattle.seen_journal.specs.Passes.{PassValue}
use Rattle.shared_parts.specs.Shares.{ShareValue}
use Rattle.tree_core.specs.Named.{AreNamed}
use Rattle.tree_core.specs.Values.{TreeValue}

-- each entry is of the thread whose pass added it
abbrev pub AreOfThreads : {E : Type 0} → (E → ℕ) → List (ℕ × E) → Type 0
AreOfThreads {E} thread xs = (k : ℕ) (x : ℕ × E) → At xs k x → thread x.1 ≡ x.0

abbrev pub made_by : SliceEntry → ℕ
made_by e = e.thread

abbrev pub taken_from : TreeEntry → ℕ
taken_from h = h.thread

-- A thread's passes are of the named journals, one of the tree's and one of each slice's, and have its number and its quotas.
pub record IsSeen (script : ScriptValue) (tree : JournalName) (slices : List JournalName) (s : SeenValue) : Type 0 where
  pub tree_name : s.tree.name ≡ tree
  pub tree_number : s.tree.number ≡ s.thread
  pub tree_threads : AreOfThreads taken_from s.tree.seen
  pub count : length s.slices ≡ slice_count script.machine
  pub names : (i : ℕ) → i < length s.slices → (pass_at s i).name ≡ name_at slices i
  pub numbers : (i : ℕ) → i < length s.slices → (pass_at s i).number ≡ s.thread
  pub threads : (i : ℕ) → i < length s.slices → AreOfThreads made_by (pass_at s i).seen
  pub quotas : HaveQuotas script tree slices

-- what lies under a slice's lock
pub record SliceCellValue : Type 0 where
  pub cache : CacheValue
  pub journal : JournalValue SliceEntry
  pub tree : PassValue TreeEntry
  pub share : ShareValue Part

-- The cache stands for the slice's list, which is kept as far as the tree's history was seen, and is the part of the share.
pub record SliceIsKept (script : ScriptValue) (table : TableId) (tree slice : JournalName) (i : ℕ) (c : SliceCellValue) : Type 0 where
  pub lawful : IsLawful script
  pub within : i < slice_count script.machine
  pub journal_is : c.journal.name ≡ slice
  pub pass_is : c.tree.name ≡ tree
  pub shape : c.cache.shape ≡ shape_in script.machine i
  pub rmids : c.cache.rmids ≡ script.machine.rmids
  pub stands : StandsFor c.cache (list_of c.journal.entries)
  pub keeps : SliceKeeps script i (history_of c.tree.seen) (list_of c.journal.entries)
  pub threads : AreOfThreads made_by c.journal.entries
  pub few : length c.journal.entries < 2 ^ 32
  pub tree_threads : AreOfThreads taken_from c.tree.seen
  pub share_is : IsShareOf table (live_slice i (list_of c.journal.entries) ∷ []) c.share

-- ---- the tree's cell

-- the pass of a slice's journal in a list of them
abbrev pub pass_in : List (PassValue SliceEntry) → ℕ → PassValue SliceEntry
pass_in passes i = slice_index_or passes i no_pass

-- passes of the journals of all slices
pub record ArePasses (script : ScriptValue) (slices : List JournalName) (passes : List (PassValue SliceEntry)) : Type 0 where
  pub count : length passes ≡ slice_count script.machine
  pub names : (i : ℕ) → i < length passes → (pass_in passes i).name ≡ name_at slices i
  pub threads : (i : ℕ) → i < length passes → AreOfThreads made_by (pass_in passes i).seen

-- what lies under the tree's lock
pub record TreeCellValue : Type 0 where
  pub tree : TreeValue
  pub journal : JournalValue TreeEntry
  pub slices : List (PassValue SliceEntry)
  pub share : ShareValue Part

-- what its cell has seen of all journals
abbrev pub seen_in : TreeCellValue → JournalsValue
seen_in c = record { tree = history_of c.journal.entries; slices = map (λ (p : PassValue SliceEntry). list_of p.seen) c.slices }

-- The tree is the one that its history left, which is kept as far as the slices were seen; the names of its groups are the script's;
-- the history is the part of the share, and nobody holds the tree.
pub record TreeIsKept (script : ScriptValue) (table : TableId) (tree : JournalName) (slices : List JournalName) (c : TreeCellValue) : Type 0 where
  pub lawful : IsLawful script
  pub journal_is : c.journal.name ≡ tree
  pub machine : c.tree.machine ≡ script.machine
  pub epoch : c.tree.epoch ≡ length c.journal.entries
  pub passes : ArePasses script slices c.slices
  pub threads : AreOfThreads taken_from c.journal.entries
  pub keeps : TreeKeeps script c.tree.state (seen_in c)
  pub named : AreNamed script.names c.tree.state.groups
  pub share_is : IsShareOf table (live_tree (list_of c.journal.entries) None ∷ []) c.share

-- ---- the whole

-- The machine is the script's, and the journals have the quotas of its threads.
pub record LiveIsKept (script : ScriptValue) (tree : JournalName) (slices : List JournalName) (m : Parameters) : Type 0 where
  pub machine : m ≡ script.machine
  pub lawful : IsLawful script
  pub quotas : HaveQuotas script tree slices
