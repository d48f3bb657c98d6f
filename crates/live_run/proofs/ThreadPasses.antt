-- The passes of all threads are those of their journals that may add to them.
use Rattle.std.proofs.Common.{◌≡◌, ℕ, ◌+◌, ◌<◌, ◌≤◌, inl, inr, List, [], Vec, length, get_or, refl, sym, ap, ◌∙◌, subst, arith}
use Rattle.std.specs.Prelude.{slice_index_or}
use Rattle.std.specs.declared.alloc.Global.{Global}
use Rattle.std.proofs.lemmas.Bool.{cases_lt}
use Rattle.std.proofs.lemmas.List.{get_or_default, get_or_past}
use Rattle.atomic_table.specs.Seated.{TableId}
use Rattle.cache_core.specs.declared.entry.SliceEntry.{SliceEntry}
use Rattle.live_run.proofs.Counts.{count_by-numbered}
use Rattle.live_run.proofs.Room.{get_or-quotas}
use Rattle.live_run.specs.Cells.{SliceCellValue}
use Rattle.live_run.specs.Closings.{AreGathered, MayClose, MayCloseEach}
use Rattle.live_run.specs.Names.{PassesValue, name_at, no_pass, pass_at}
use Rattle.live_run.specs.Openings.{AreSettled, part_at}
use Rattle.live_run.specs.Phases.{AreBefore, passes_at}
use Rattle.live_run.specs.Quotas.{HaveQuotas}
use Rattle.machine.specs.Slices.{slice_count}
use Rattle.run_law.specs.Quotas.{commands_of, quotas_of}
use Rattle.run_law.specs.declared.journals.TreeEntry.{TreeEntry}
use Rattle.script_ops.specs.Values.{ScriptValue, threads_of}
use Rattle.seen_journal.specs.Journals.{JournalName, JournalValue}
use Rattle.seen_journal.specs.Passes.{EachOnce, PassValue}

-- ---- quotas past the threads

-- passes of all threads, by their numbers, are each there once that may add
once_each : {E : Type 0} (quotas : List ℕ) (count : ℕ) (passes : List (PassValue E)) → ((i : ℕ) → count ≤ i → slice_index_or quotas i 0 ≡ 0) → length passes ≡ count → ((t : ℕ) (d : PassValue E) → t < length passes → (slice_index_or passes t d).number ≡ t) → EachOnce quotas passes
once_each quotas count passes none whole numbers i some = elim (cases_lt i count) [
  | inl within ↦ count_by-numbered 0 i passes (λ t d within. numbers t d within ∙ omega arith) (omega arith) (omega (arith, within, whole))
  | inr past ↦ absurd (omega (arith, some, none i past))
]

module _ (script : ScriptValue) (tree : JournalName) (slices : List JournalName) (quotas : HaveQuotas script tree slices) where
  no_tree_quota : (i : ℕ) → length (threads_of script) ≤ i → slice_index_or tree.quotas i 0 ≡ 0
  no_tree_quota i past =
      ap (λ (qs : List ℕ). get_or qs i 0) quotas.tree_are
      ∙ (get_or-quotas commands_of (threads_of script) (slice_count script.machine) i refl ∙ ap commands_of (get_or_past (threads_of script) i [] past))

  no_slice_quota : (k i : ℕ) → k < slice_count script.machine → length (threads_of script) ≤ i → slice_index_or (name_at slices k).quotas i 0 ≡ 0
  no_slice_quota k i there past =
      ap (λ (qs : List ℕ). get_or qs i 0) (quotas.slices_are k there)
      ∙ (get_or-quotas (quotas_of script.machine k) (threads_of script) 1 i refl ∙ ap (quotas_of script.machine k) (get_or_past (threads_of script) i [] past))

-- ---- the threads' passes

module _ (script : ScriptValue) (tree : JournalName) (slices : List JournalName) (quotas : HaveQuotas script tree slices) (ps : List PassesValue) (trees : List (PassValue TreeEntry)) (lists : List (Vec (PassValue SliceEntry) Global))
    (gathered : AreGathered script tree slices ps trees lists) (before : AreBefore script (length script.phases) ps) where
  thread_is : (t : ℕ) → t < length ps → (passes_at ps t).seen.thread ≡ t
  thread_is t within = before.threads t within

  -- the tree's journal may be closed
  pub may_close_tree : (journal : JournalValue TreeEntry) → journal.name ≡ tree → MayClose journal trees
  may_close_tree journal name = record {
    names = λ t d within.
        let there : t < length ps = omega (arith, within, gathered.trees_count) in
        ap (λ (p : PassValue TreeEntry). p.name) (gathered.trees_are t d there) ∙ ((gathered.kept t there).seen.tree_name ∙ sym name);
    once = subst (λ (n : JournalName). EachOnce n.quotas trees) (sym name)
        (once_each tree.quotas (length (threads_of script)) trees (no_tree_quota script tree slices quotas) (gathered.trees_count ∙ before.count)
        (λ t d within.
        let there : t < length ps = omega (arith, within, gathered.trees_count) in
        ap (λ (p : PassValue TreeEntry). p.number) (gathered.trees_are t d there) ∙ ((gathered.kept t there).seen.tree_number ∙ thread_is t there)));
  }

  module _ (k i : ℕ) (e : Vec (PassValue SliceEntry) Global) (at : i + k + 1 ≡ slice_count script.machine) where
    list_count : length (slice_index_or lists k e).items ≡ length ps
    list_count = (gathered.lists_are k i e at).count

    -- its passes are the threads'
    pub of_thread : (t : ℕ) (d : PassValue SliceEntry) → t < length (slice_index_or lists k e).items → slice_index_or (slice_index_or lists k e).items t d ≡ pass_at (passes_at ps t).seen i
    of_thread t d within = get_or_default (slice_index_or lists k e).items t d no_pass within ∙ (gathered.lists_are k i e at).each t (omega (arith, within, list_count))

    may_close_slice : (journal : JournalValue SliceEntry) → journal.name ≡ name_at slices i → MayClose journal (slice_index_or lists k e).items
    may_close_slice journal name = record {
      names = λ t d within.
          let there : t < length ps = omega (arith, within, list_count) in
          let seen = (gathered.kept t there).seen in
          ap (λ (p : PassValue SliceEntry). p.name) (of_thread t d within) ∙ (seen.names i (omega (arith, at, seen.count)) ∙ sym name);
      once = subst (λ (n : JournalName). EachOnce n.quotas (slice_index_or lists k e).items) (sym name)
          (once_each (name_at slices i).quotas (length (threads_of script)) (slice_index_or lists k e).items (λ n past. no_slice_quota script tree slices quotas i n (omega (arith, at)) past) (list_count ∙ before.count)
          (λ t d within.
          let there : t < length ps = omega (arith, within, list_count) in
          let seen = (gathered.kept t there).seen in
          ap (λ (p : PassValue SliceEntry). p.number) (of_thread t d within) ∙ (seen.numbers i (omega (arith, at, seen.count)) ∙ thread_is t there)));
    }

  -- and those of the slices
  pub may_close_each : (table : TableId) (history : List (ℕ × TreeEntry)) (parts : List SliceCellValue) → AreSettled script table tree slices history (slice_count script.machine) parts → MayCloseEach parts lists
  may_close_each table history parts settled =
      let count : length parts ≡ slice_count script.machine = omega (arith, settled.count) in
      record {
        count = gathered.count ∙ sym count;
        each = λ k i d e at. may_close_slice k i e (at ∙ count) (part_at parts i d).journal (settled.kept i d (omega (arith, at))).journal_is;
      }
