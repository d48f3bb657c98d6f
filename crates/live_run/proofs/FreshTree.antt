-- The tree's cell before the first op.
use Rattle.std.proofs.Common.{◌≡◌, ℕ, List, [], ◌∷◌, None, length, map, sym, ap, ◌∙◌, subst, arith}
use Rattle.atomic_table.specs.Seated.{TableId}
use Rattle.cache_core.specs.declared.entry.SliceEntry.{SliceEntry}
use Rattle.live_law.specs.Cells.{TreeKeeps}
use Rattle.live_run.specs.Cells.{AreOfThreads, ArePasses, TreeCellValue, TreeIsKept, made_by}
use Rattle.live_run.specs.Openings.{AreNew}
use Rattle.live_run.specs.Sharing.{IsShareOf}
use Rattle.machine.specs.Slices.{slice_count}
use Rattle.run_law.specs.TreeHistory.{tree_after}
use Rattle.schedule_law.specs.LiveParts.{live_tree}
use Rattle.script_ops.specs.Values.{IsLawful, ScriptValue}
use Rattle.seen_journal.specs.Entries.{list_of}
use Rattle.seen_journal.specs.Journals.{JournalName}
use Rattle.seen_journal.specs.Passes.{PassValue}
use Rattle.tree_core.proofs.laws.KnownNames.{named_opening}
use Rattle.tree_law.specs.State.{State, opening}

-- the opening tree, and no entry
TreeKeeps-opening : (script : ScriptValue) (state : State) (slices : List (List SliceEntry)) → state ≡ opening script.machine script.tasks → TreeKeeps script state (record { tree = []; slices = slices })
unfolding tree_after
TreeKeeps-opening script state slices is = record {
  state_is = is;
  legal = tt;
  made = λ i k within before. absurd (omega (arith, before));
  matched = λ k h at. absurd cc;
}

-- passes that have seen nothing
ArePasses-new : (script : ScriptValue) (slices : List JournalName) (n : ℕ) (passes : List (PassValue SliceEntry)) → AreNew slices (slice_count script.machine) n passes → ArePasses script slices passes
ArePasses-new script slices n passes new = record {
  count = new.count;
  names = λ i within. ap (λ (p : PassValue SliceEntry). p.name) (new.each i (omega (arith, within, new.count)));
  threads = λ i within. subst (λ (p : PassValue SliceEntry). AreOfThreads made_by p.seen) (sym (new.each i (omega (arith, within, new.count)))) (λ k x at. absurd cc);
}

pub TreeIsKept-opening : (script : ScriptValue) (table : TableId) (tree : JournalName) (slices : List JournalName) (n : ℕ) (c : TreeCellValue) → IsLawful script → c.journal.name ≡ tree → c.journal.entries ≡ [] → AreNew slices (slice_count script.machine) n c.slices
    → c.tree.machine ≡ script.machine → c.tree.state ≡ opening script.machine script.tasks → c.tree.epoch ≡ 0 → IsShareOf table (live_tree [] None ∷ []) c.share → TreeIsKept script table tree slices c
TreeIsKept-opening script table tree slices n c lawful name empty new machine state epoch share = record {
  lawful = lawful;
  journal_is = name;
  machine = machine;
  epoch = epoch ∙ sym (ap length empty);
  passes = ArePasses-new script slices n c.slices new;
  threads = rw empty (λ k x at. absurd cc);
  keeps = rw empty (TreeKeeps-opening script c.tree.state (map (λ (p : PassValue SliceEntry). list_of p.seen) c.slices) state);
  named = rw state (named_opening script.names script.machine script.tasks);
  share_is = rw empty share;
}
