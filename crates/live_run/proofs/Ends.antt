-- What the cells leave is a run.
use Rattle.std.proofs.Common.{◌≡◌, ℕ, zero, suc, ◌<◌, ◌==◌, inl, inr, List, [], ◌∷◌, length, map, get_or, refl, sym, ap, ◌∙◌, subst, arith}
use Rattle.std.proofs.lemmas.Bool.{cases_lt}
use Rattle.std.proofs.lemmas.List.{get_or_past, length-map}
use Rattle.atomic_table.specs.Seated.{TableId}
use Rattle.cache_core.specs.declared.entry.SliceEntry.{SliceEntry}
use Rattle.live_law.specs.Cells.{SliceKeeps, TreeKeeps}
use Rattle.live_law.proofs.laws.Ends.{IsRun-at_end}
use Rattle.live_law.proofs.laws.Prefixes.{NoMore-self}
use Rattle.live_law.specs.SeenJournals.{NoMore, SeesMore, is_by}
use Rattle.live_run.proofs.Bridges.{history_more, no_more, seen-slice}
use Rattle.live_run.proofs.Trees.{lists_of}
use Rattle.live_run.specs.Cells.{TreeCellValue, made_by, pass_in, taken_from}
use Rattle.live_run.specs.Ends.{AreAtEnd, IsThreadAtEnd, journal_at, journals_left}
use Rattle.live_run.specs.Names.{SeenValue, history_of, no_pass, pass_at, seen_by}
use Rattle.run_law.specs.Journals.{slice_at}
use Rattle.run_law.specs.Runs.{IsRun}
use Rattle.script_ops.specs.Values.{ScriptValue}
use Rattle.seen_journal.specs.Entries.{list_of}
use Rattle.seen_journal.specs.Journals.{JournalName, JournalValue}
use Rattle.seen_journal.specs.Passes.{HasAll, PassValue}

-- the list of a journal that is left
left_at : (js : List (JournalValue SliceEntry)) (i : ℕ) → get_or (map (λ (j : JournalValue SliceEntry). list_of j.entries) js) i [] ≡ list_of (journal_at js i).entries
left_at [] i = refl
left_at (j ∷ js) zero = refl
left_at (j ∷ js) (suc i) = left_at js i

-- lists that agree at each place
lists_left : (ps : List (PassValue SliceEntry)) (js : List (JournalValue SliceEntry)) → length ps ≡ length js → ((i : ℕ) → i < length js → (pass_in ps i).seen ≡ (journal_at js i).entries)
    → lists_of ps ≡ map (λ (j : JournalValue SliceEntry). list_of j.entries) js
lists_left [] [] count same = refl
lists_left [] (j ∷ js) count same = absurd (omega (arith, count))
lists_left (p ∷ ps) [] count same = absurd (omega (arith, count))
lists_left (p ∷ ps) (j ∷ js) count same =
    let first : p.seen ≡ j.entries = same 0 (omega arith) in
    rw first (ap (λ (ls : List (List SliceEntry)). list_of j.entries ∷ ls) (lists_left ps js (omega (arith, count)) (λ i less. same (suc i) (omega (arith, less)))))

module _ (script : ScriptValue) (table : TableId) (tree : JournalName) (slices : List JournalName) (c : TreeCellValue) (js : List (JournalValue SliceEntry)) (ends : AreAtEnd script table tree slices c js) where
  -- a thread has all of its own in what it has seen
  pub thread_sees : (t : ℕ) (s : SeenValue) → IsThreadAtEnd script tree slices c js t s → SeesMore t (seen_by s) (journals_left c js)
  thread_sees t s end = record {
    tree =
        let number : s.tree.number ≡ t = end.seen.tree_number ∙ end.thread in
        history_more t s.tree.seen c.journal.entries
        (subst (λ n. NoMore (λ h. taken_from h == n) (list_of s.tree.seen) (list_of c.journal.entries)) number (no_more taken_from s.tree.number s.tree.seen c.journal.entries end.all_tree.prefix end.all_tree.own_are ends.kept.threads));
    slices = λ i. elim (cases_lt i (length js)) [
      | inl within ↦
          let there : i < length s.slices = omega (arith, within, ends.count, end.seen.count) in
          let number : (pass_at s i).number ≡ t = end.seen.numbers i there ∙ end.thread in
          let all : HasAll (journal_at js i).entries (pass_at s i) = end.all_slices i within in
          subst (λ xs. NoMore (is_by t) xs (slice_at (journals_left c js) i)) (sym (seen-slice s i))
          (subst (λ xs. NoMore (is_by t) (list_of (pass_at s i).seen) xs) (sym (left_at js i))
          (subst (λ n. NoMore (is_by n) (list_of (pass_at s i).seen) (list_of (journal_at js i).entries)) number (no_more made_by (pass_at s i).number (pass_at s i).seen (journal_at js i).entries all.prefix all.own_are (ends.threads i within))))
      | inr past ↦
          let none : pass_at s i ≡ no_pass = get_or_past s.slices i no_pass (omega (arith, past, ends.count, end.seen.count)) in
          let mine : slice_at (seen_by s) i ≡ [] = seen-slice s i ∙ ap (λ (p : PassValue SliceEntry). list_of p.seen) none in
          let left : slice_at (journals_left c js) i ≡ [] = get_or_past (map (λ (j : JournalValue SliceEntry). list_of j.entries) js) i [] (omega (arith, past, length-map js (λ (j : JournalValue SliceEntry). list_of j.entries))) in
          subst (λ xs. NoMore (is_by t) xs (slice_at (journals_left c js) i)) (sym mine) (subst (λ xs. NoMore (is_by t) [] xs) (sym left) (NoMore-self (is_by t) []))
    ];
  }

  -- so the journals are a run
  pub left_is_run : IsRun script (journals_left c js)
  left_is_run =
      let same : lists_of c.slices ≡ map (λ (j : JournalValue SliceEntry). list_of j.entries) js = lists_left c.slices js (ends.kept.passes.count ∙ sym ends.count) ends.seen in
      IsRun-at_end script (journals_left c js) (record {
        count = length-map js (λ (j : JournalValue SliceEntry). list_of j.entries) ∙ ends.count;
        state = c.tree.state;
        tree = subst (λ ls. TreeKeeps script c.tree.state (record { tree = history_of c.journal.entries; slices = ls })) same ends.kept.keeps;
        slices = λ i within. subst (λ xs. SliceKeeps script i (history_of c.journal.entries) xs) (sym (left_at js i)) (ends.keeps i (omega (arith, within, ends.count)));
        passes = λ t there.
            let (s, end) = ends.ends t there in
            (seen_by s, end.keeps, thread_sees t s end);
      })
