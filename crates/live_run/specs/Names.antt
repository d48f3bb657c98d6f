-- What a RunNames names, and what contracts see of a thread's passes.
-- (For functions and proofs: no promise of the program stands on it.)
use Rattle.std.specs.Prelude.{ℕ, Bool, false, List, [], map, slice_index_or}
use Rattle.atomic_table.specs.Seated.{TableId}
use Rattle.cache_core.specs.declared.entry.SliceEntry.{SliceEntry}
use Rattle.run_law.specs.Entries.{entry_value}
use Rattle.run_law.specs.Journals.{JournalsValue}
use Rattle.run_law.specs.TreeHistory.{TreeEntryValue}
use Rattle.run_law.specs.declared.journals.TreeEntry.{TreeEntry}
use Rattle.script_ops.specs.Values.{ScriptValue}
use Rattle.seen_journal.specs.Entries.{list_of}
use Rattle.seen_journal.specs.Journals.{JournalName}
use Rattle.seen_journal.specs.Passes.{PassValue}

-- for a RunNames that names nothing
abbrev pub no_table : TableId
no_table = record { words = 0; slots = 0; views_name = 0; atom = 0; block = 0; offset = 0; slot_names = [] }

abbrev pub no_name : JournalName
no_name = record { table = no_table; quotas = [] }

abbrev pub no_script : ScriptValue
no_script = record {
  machine = record { domains = 0; sets = 0; ways = 0; classes = 0; rmids = 0; cpus = 0; min = 0; shareable = 0; threshold = 0; sparse = false; slices = 0 };
  tasks = [];
  names = [];
  phases = [];
}

-- the name of a slice's journal
abbrev pub name_at : List JournalName → ℕ → JournalName
name_at names i = slice_index_or names i no_name

-- a thread, and its passes of the tree's journal and of those of the slices
pub record SeenValue : Type 0 where
  pub thread : ℕ
  pub tree : PassValue TreeEntry
  pub slices : List (PassValue SliceEntry)

abbrev pub no_pass : PassValue SliceEntry
no_pass = record { name = no_name; number = 0; seen = [] }

-- the pass of a slice's journal
abbrev pub pass_at : SeenValue → ℕ → PassValue SliceEntry
pass_at s i = slice_index_or s.slices i no_pass

-- the tree's history that a pass has seen
abbrev pub history_of : List (ℕ × TreeEntry) → List TreeEntryValue
history_of seen = map entry_value (list_of seen)

-- what was seen of all journals
abbrev pub seen_by : SeenValue → JournalsValue
seen_by s = record { tree = history_of s.tree.seen; slices = map (λ (p : PassValue SliceEntry). list_of p.seen) s.slices }

-- those of a thread between two of its ops, the number of the next, the text that it was shown last, and whether its phase is known
-- to have begun
pub record PassesValue : Type 0 where
  pub seen : SeenValue
  pub next : ℕ
  pub shown : List ℕ
  pub begun : Bool
