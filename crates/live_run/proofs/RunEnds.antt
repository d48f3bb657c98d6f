-- The end of a run: what the cells and the threads leave.
use Rattle.std.proofs.Common.{◌≡◌, ℕ, ◌+◌, ◌-◌, ◌<◌, inl, inr, All, List, [], ◌∷◌, Vec, length, map, refl, sym, ap, ◌∙◌, subst, arith}
use Rattle.std.specs.Prelude.{slice_index_or}
use Rattle.std.specs.declared.alloc.Global.{Global}
use Rattle.std.proofs.Math.Seq.{take-length}
use Rattle.std.proofs.lemmas.Bool.{cases_lt}
use Rattle.std.proofs.lemmas.List.{get_or-map, length-map}
use Rattle.atomic_table.specs.Seated.{TableId}
use Rattle.cache_core.specs.declared.entry.SliceEntry.{SliceEntry}
use Rattle.live_law.specs.Cells.{SliceKeeps}
use Rattle.live_law.specs.Passes.{PassesKeep}
use Rattle.live_law.specs.SeenJournals.{SeesMore}
use Rattle.live_run.proofs.Closed.{lists_in}
use Rattle.live_run.proofs.Ends.{left_is_run, thread_sees}
use Rattle.live_run.proofs.Trees.{tree_meets}
use Rattle.live_run.specs.Cells.{AreOfThreads, ArePasses, SliceCellValue, TreeCellValue, TreeIsKept, made_by, pass_in}
use Rattle.live_run.specs.Closings.{AreGathered, HaveAll, HaveSeenEach}
use Rattle.live_run.specs.Ends.{AreAtEnd, IsThreadAtEnd, journal_at, journals_left}
use Rattle.live_run.specs.Names.{PassesValue, history_of, no_name, no_pass, pass_at, seen_by}
use Rattle.live_run.specs.Openings.{AreSettled, part_at}
use Rattle.live_run.specs.Phases.{AreBefore, passes_at}
use Rattle.live_run.specs.Quotas.{HaveQuotas}
use Rattle.live_run.specs.Steps.{HaveGrown}
use Rattle.machine.specs.Slices.{slice_count}
use Rattle.run_law.specs.Journals.{JournalsValue}
use Rattle.run_law.specs.Runs.{IsRun}
use Rattle.run_law.specs.declared.journals.TreeEntry.{TreeEntry}
use Rattle.script_ops.specs.Values.{ScriptValue, first_thread, ops_of, threads_in, threads_of}
use Rattle.seen_journal.proofs.laws.Prefixes.{IsPrefix-self}
use Rattle.seen_journal.specs.Entries.{list_of}
use Rattle.seen_journal.specs.Journals.{JournalName, JournalValue}
use Rattle.seen_journal.specs.Passes.{HasAll, PassValue}
use Rattle.seen_journal.specs.Prefixes.{IsPrefix}
use Rattle.live_run.proofs.ThreadPasses.{of_thread}

-- some element, where there is one
pub some_part : (parts : List SliceCellValue) (i : ℕ) → i < length parts → SliceCellValue
some_part [] i within = absurd (omega (arith, within))
some_part (c ∷ cs) i within = c

module _ (script : ScriptValue) (table : TableId) (tree : JournalName) (slices : List JournalName) (cell : TreeCellValue) (kept : TreeIsKept script table tree slices cell) (parts : List SliceCellValue) (settled : AreSettled script table tree slices cell.journal.entries (slice_count script.machine) parts) where
  count_is : length parts ≡ slice_count script.machine
  count_is = omega (arith, settled.count)

  -- the tree's cell has a pass of each slice's journal
  pub names_each : (i : ℕ) (d : SliceCellValue) → i < length parts → (pass_in cell.slices i).name ≡ (part_at parts i d).journal.name
  names_each i d within = kept.passes.names i (omega (arith, within, count_is, kept.passes.count)) ∙ sym (settled.kept i d within).journal_is

  module _ (own : List (PassValue SliceEntry)) (shown : HaveSeenEach (length parts) parts cell.slices own) where
    passes_now : ArePasses script slices own
    passes_now = record {
      count = shown.count ∙ kept.passes.count;
      names = λ i within.
          let there : i < length parts = omega (arith, within, count_is, shown.count, kept.passes.count) in
          (shown.seen i (some_part parts i there) there there).name ∙ kept.passes.names i (omega (arith, within, shown.count));
      threads = λ i within.
          let there : i < length parts = omega (arith, within, count_is, shown.count, kept.passes.count) in
          let d = some_part parts i there in
          subst (AreOfThreads made_by) (sym (shown.seen i d there there).seen_are) (settled.kept i d there).threads;
    }

    grown : HaveGrown cell.slices own
    grown i = elim (cases_lt i (length parts)) [
      | inl there ↦ (shown.seen i (some_part parts i there) there there).prefix
      | inr past ↦ subst (λ (p : PassValue SliceEntry). IsPrefix (pass_in cell.slices i).seen p.seen) (sym (shown.rest i past)) (IsPrefix-self (pass_in cell.slices i).seen)
    ]

    -- the cell, when it has seen the whole lists of the slices
    cell_now : TreeIsKept script table tree slices (record { tree = cell.tree; journal = cell.journal; slices = own; share = cell.share })
    cell_now = tree_meets script table tree slices cell kept own passes_now grown

-- ---- the run

-- the journals of the slices
abbrev pub journals_of : List SliceCellValue → List (JournalValue SliceEntry)
journals_of parts = map (λ (c : SliceCellValue). c.journal) parts

lists_of_journals : (parts : List SliceCellValue) → map (λ (j : JournalValue SliceEntry). list_of j.entries) (journals_of parts) ≡ lists_in parts
lists_of_journals [] = refl
lists_of_journals (c ∷ cs) = ap (λ ls. list_of c.journal.entries ∷ ls) (lists_of_journals cs)

module _ (script : ScriptValue) (table : TableId) (tree : JournalName) (slices : List JournalName) (quotas : HaveQuotas script tree slices) (cell : TreeCellValue) (kept : TreeIsKept script table tree slices cell) (parts : List SliceCellValue)
    (settled : AreSettled script table tree slices cell.journal.entries (slice_count script.machine) parts) (own : List (PassValue SliceEntry)) (shown : HaveSeenEach (length parts) parts cell.slices own)
    (ps : List PassesValue) (trees : List (PassValue TreeEntry)) (lists : List (Vec (PassValue SliceEntry) Global)) (gathered : AreGathered script tree slices ps trees lists) (before : AreBefore script (length script.phases) ps)
    (all_tree : All (HasAll cell.journal.entries) trees) (all_slices : HaveAll (length parts) parts lists) where
  abbrev pub cell_left : TreeCellValue
  cell_left = record { tree = cell.tree; journal = cell.journal; slices = own; share = cell.share }

  parts_count : length parts ≡ slice_count script.machine
  parts_count = omega (arith, settled.count)

  journals_count : length (journals_of parts) ≡ length parts
  journals_count = length-map parts (λ (c : SliceCellValue). c.journal)

  journal_is : (i : ℕ) (d : SliceCellValue) → i < length parts → journal_at (journals_of parts) i ≡ (part_at parts i d).journal
  journal_is i d within = get_or-map (λ (c : SliceCellValue). c.journal) parts i d (record { name = no_name; entries = [] }) within

  all_begun : first_thread script (length script.phases) ≡ length (threads_of script)
  all_begun = ap (λ phases. length (threads_in phases)) (take-length script.phases)

  pub thread_end : (t : ℕ) → t < length ps → IsThreadAtEnd script tree slices cell_left (journals_of parts) t (passes_at ps t).seen
  thread_end t there =
      let p = passes_at ps t in
      let thread : p.seen.thread ≡ t = before.threads t there in
      let at_end : p.next ≡ length (ops_of script p.seen.thread) = before.done t there (omega (arith, there, before.count, all_begun)) in
      let keeps : PassesKeep script p.seen.thread (length (ops_of script p.seen.thread)) (seen_by p.seen) = subst (λ n. PassesKeep script p.seen.thread n (seen_by p.seen)) at_end (gathered.kept t there).keeps in
      record {
        thread = thread;
        seen = (gathered.kept t there).seen;
        keeps = subst (λ n. PassesKeep script n (length (ops_of script n)) (seen_by p.seen)) thread keeps;
        all_tree = subst (HasAll cell.journal.entries) (gathered.trees_are t p.seen.tree there) (all_tree t p.seen.tree (omega (arith, there, gathered.trees_count)));
        all_slices = λ i within.
            let is_there : i < length parts = omega (arith, within, journals_count) in
            let k : ℕ = length parts - i - 1 in
            let d = some_part parts i is_there in
            let e : Vec (PassValue SliceEntry) Global = some_list lists (omega (arith, is_there, gathered.count, parts_count)) in
            let at : i + k + 1 ≡ length parts = omega (arith, is_there) in
            let count : length (slice_index_or lists k e).items ≡ length ps = (gathered.lists_are k i e (at ∙ parts_count)).count in
            let within_list : t < length (slice_index_or lists k e).items = omega (arith, there, count) in
            let pass = of_thread script tree slices quotas ps trees lists gathered before k i e (at ∙ parts_count) t no_pass within_list in
            subst (λ (j : JournalValue SliceEntry). HasAll j.entries (pass_at p.seen i)) (sym (journal_is i d is_there))
            (subst (HasAll (part_at parts i d).journal.entries) pass (all_slices k i d e is_there at t no_pass within_list));
      }
    where
      some_list : (ls : List (Vec (PassValue SliceEntry) Global)) → 0 < length ls → Vec (PassValue SliceEntry) Global
      some_list [] some = absurd (omega (arith, some))
      some_list (l ∷ ls) some = l

  at_end : AreAtEnd script table tree slices cell_left (journals_of parts)
  at_end = record {
    kept = cell_now script table tree slices cell kept parts settled own shown;
    count = journals_count ∙ parts_count;
    seen = λ i within.
        let there : i < length parts = omega (arith, within, journals_count) in
        let d = some_part parts i there in
        (shown.seen i d there there).seen_are ∙ ap (λ (j : JournalValue SliceEntry). j.entries) (sym (journal_is i d there));
    threads = λ i within.
        let there : i < length parts = omega (arith, within, journals_count) in
        let d = some_part parts i there in
        subst (λ (j : JournalValue SliceEntry). AreOfThreads made_by j.entries) (sym (journal_is i d there)) (settled.kept i d there).threads;
    keeps = λ i within.
        let there : i < length parts = omega (arith, within, journals_count) in
        let d = some_part parts i there in
        subst (λ (j : JournalValue SliceEntry). SliceKeeps script i (history_of cell.journal.entries) (list_of j.entries)) (sym (journal_is i d there))
        (subst (λ xs. SliceKeeps script i (history_of xs) (list_of (part_at parts i d).journal.entries)) (settled.seen i d there) (settled.kept i d there).keeps);
    ends = λ t there.
        let among : t < length ps = omega (arith, there, before.count) in
        ((passes_at ps t).seen, thread_end t among);
  }

  module _ (j : JournalsValue) (tree_is : j.tree ≡ history_of cell.journal.entries) (slices_are : j.slices ≡ lists_in parts) where
    are_left : journals_left cell_left (journals_of parts) ≡ j
    are_left =
        ap (λ h. record { tree = h; slices = map (λ (x : JournalValue SliceEntry). list_of x.entries) (journals_of parts) }) (sym tree_is)
        ∙ ap (λ ls. record { tree = j.tree; slices = ls }) (lists_of_journals parts ∙ sym slices_are)

    -- the journals are a run
    pub is_run : IsRun script j
    is_run = subst (IsRun script) are_left (left_is_run script table tree slices cell_left (journals_of parts) at_end)

    -- in which each thread has no entry but those that its passes had seen
    pub is_own : (t : ℕ) → t < length ps → SeesMore t (seen_by (passes_at ps t).seen) j
    is_own t there = subst (SeesMore t (seen_by (passes_at ps t).seen)) are_left (thread_sees script table tree slices cell_left (journals_of parts) at_end t (passes_at ps t).seen (thread_end t there))
