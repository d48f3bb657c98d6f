-- The places of slices are settled one after the other.
use Rattle.std.proofs.Common.{◌≡◌, ℕ, ◌≤◌, Vec, vec_capacity, List, ap, subst, sym, ◌∙◌}
use Rattle.std.specs.declared.alloc.Global.{Global}
use Rattle.atomic_table.specs.Seated.{TableId}
use Rattle.live_run.specs.Cells.{AreOfThreads, SliceCellValue, taken_from}
use Rattle.live_run.specs.Openings.{AreSettled}
use Rattle.machine.specs.Slices.{slice_count}
use Rattle.run_law.specs.declared.journals.TreeEntry.{TreeEntry}
use Rattle.script_ops.specs.Values.{ScriptValue}
use Rattle.seen_journal.specs.Journals.{JournalName, JournalValue}

-- The places from one on may be settled.
pub record MaySettle (script : ScriptValue) (table : TableId) (tree : JournalName) (slices : List JournalName) (first : ℕ) (history : JournalValue TreeEntry) (into : Vec SliceCellValue Global) : Type 0 where
  pub name : history.name ≡ tree
  pub threads : AreOfThreads taken_from history.entries
  pub room : slice_count script.machine ≤ vec_capacity into
  pub before : AreSettled script table tree slices history.entries first into.items

-- So may those after them, once these are.
pub MaySettle-next :
    (script : ScriptValue) (table : TableId) (tree : JournalName) (slices : List JournalName) (history history_now : JournalValue TreeEntry) (into into_now : Vec SliceCellValue Global) (next : ℕ)
    → history.name ≡ tree → AreOfThreads taken_from history.entries → slice_count script.machine ≤ vec_capacity into
    → history_now ≡ history → vec_capacity into_now ≡ vec_capacity into → AreSettled script table tree slices history.entries next into_now.items
    → MaySettle script table tree slices next history_now into_now
MaySettle-next script table tree slices history history_now into into_now next name threads room same capacity after = record {
  name = ap (λ (j : JournalValue TreeEntry). j.name) same ∙ name;
  threads = subst (λ (j : JournalValue TreeEntry). AreOfThreads taken_from j.entries) (sym same) threads;
  room = subst (λ n. slice_count script.machine ≤ n) (sym capacity) room;
  before = subst (λ (j : JournalValue TreeEntry). AreSettled script table tree slices j.entries next into_now.items) (sym same) after;
}
