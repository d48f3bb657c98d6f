-- The journals of a run before it begins.
-- (For functions and proofs: no promise of the program stands on it.)
use Rattle.std.specs.Prelude.{◌≡◌, ℕ, ◌-◌, ◌^◌, ◌<◌, ◌≤◌, List, [], length, slice_get, slice_index_or, Some, Vec}
use Rattle.std.specs.declared.alloc.Global.{Global}
use Rattle.live_run.specs.Names.{no_name}
use Rattle.live_run.specs.Quotas.{slice_quotas}
use Rattle.machine.specs.Slices.{slice_count}
use Rattle.run_law.specs.Quotas.{quotas_of}
use Rattle.script_ops.specs.Values.{ScriptValue, ops_of}
use Rattle.seen_journal.specs.Journals.{JournalName, JournalValue}
use Rattle.seen_journal.specs.Passes.{PassValue, new_pass}

-- ---- one journal

-- an empty journal: its name, and how many of its passes are not given yet
pub record LogValue : Type 0 where
  pub name : JournalName
  pub left : ℕ

-- The journal is empty, and these are its last passes, from the last on.
pub record IsLog {E : Type 0} (journal : JournalValue E) (passes : List (PassValue E)) : Type 0 where
  pub empty : journal.entries ≡ []
  pub count : length passes ≤ length journal.name.quotas
  pub each : (k : ℕ) → k < length passes → slice_get passes k ≡ Some (new_pass journal.name (length journal.name.quotas - 1 - k))

-- ---- all journals

-- the names of the tree's journal and of those of the slices
pub record LogsValue : Type 0 where
  pub tree : JournalName
  pub slices : List JournalName

-- that of a slice
abbrev pub log_at : List LogValue → ℕ → LogValue
log_at logs i = slice_index_or logs i (record { name = no_name; left = 0 })

-- no pass is given yet
pub record AreWhole (tree : LogValue) (slices : List LogValue) : Type 0 where
  pub tree_left : tree.left ≡ length tree.name.quotas
  pub slices_left : (i : ℕ) → i < length slices → (log_at slices i).left ≡ length (log_at slices i).name.quotas

-- ---- their quotas

-- For each of n threads how many entries its ops can make in each slice.
pub record AreThreadRooms (script : ScriptValue) (n : ℕ) (rooms : List (Vec ℕ Global)) : Type 0 where
  pub count : length rooms ≡ n
  pub counts : (t : ℕ) (d : Vec ℕ Global) → t < n → length (slice_index_or rooms t d).items ≡ slice_count script.machine
  pub each : (t i d : ℕ) (v : Vec ℕ Global) → t < n → i < slice_count script.machine → slice_index_or (slice_index_or rooms t v).items i d ≡ quotas_of script.machine i (ops_of script t)
  pub few : (t i : ℕ) → t < n → i < slice_count script.machine → quotas_of script.machine i (ops_of script t) ≤ 2 ^ 30

-- The journals of the first n slices have their quotas, and no pass is given yet.
pub record AreSliceLogs (script : ScriptValue) (n : ℕ) (logs : List LogValue) : Type 0 where
  pub count : length logs ≡ n
  pub quotas : (i : ℕ) → i < n → (log_at logs i).name.quotas ≡ slice_quotas script i
  pub left : (i : ℕ) → i < n → (log_at logs i).left ≡ length (slice_quotas script i)
