-- The passes of the threads, thread by thread.
use Rattle.std.proofs.Common.{◌≡◌, ℕ, ◌-◌, ◌<◌, inl, inr, List, [], ◌∷◌, ◌++◌, Vec, length, sym, ◌∙◌, subst, arith}
use Rattle.std.specs.Prelude.{slice_index_or}
use Rattle.std.specs.declared.alloc.Global.{Global}
use Rattle.std.proofs.lemmas.Bool.{cases_lt}
use Rattle.std.proofs.lemmas.List.{get_or_append_left, get_or_push, length_push}
use Rattle.cache_core.specs.declared.entry.SliceEntry.{SliceEntry}
use Rattle.live_law.specs.Passes.{PassesKeep}
use Rattle.live_run.specs.Cells.{IsSeen, pass_in}
use Rattle.live_run.specs.Closings.{AreGathered, AreOfSlice, HaveOneMore, IsThreadKept}
use Rattle.live_run.specs.Names.{PassesValue, SeenValue, no_pass, pass_at, seen_by}
use Rattle.live_run.specs.Phases.{no_passes, passes_at}
use Rattle.machine.specs.Slices.{slice_count}
use Rattle.run_law.specs.declared.journals.TreeEntry.{TreeEntry}
use Rattle.script_ops.specs.Values.{ScriptValue}
use Rattle.seen_journal.specs.Journals.{JournalName}
use Rattle.seen_journal.specs.Passes.{PassValue}

-- what holds of each of these threads, and of one more
by_thread : (P : ℕ → PassesValue → Type 0) (ps : List PassesValue) (p : PassesValue) → ((t : ℕ) → t < length ps → P t (passes_at ps t)) → P (length ps) p → (t : ℕ) → t < length (ps ++ p ∷ []) → P t (passes_at (ps ++ p ∷ []) t)
by_thread P ps p each last t within = elim (cases_lt t (length ps)) [
  | inl before ↦ subst (P t) (sym (get_or_append_left ps (p ∷ []) no_passes t before)) (each t before)
  | inr after ↦
      let same : length ps ≡ t = omega (arith, within, after, length_push ps p) in
      subst (P t) (sym (get_or_push ps p no_passes t same)) (subst (λ t. P t p) same last)
]

-- a list with one pass more
AreOfSlice-push : (ps : List PassesValue) (p : PassesValue) (i : ℕ) (passes : List (PassValue SliceEntry)) → AreOfSlice ps i passes → AreOfSlice (ps ++ p ∷ []) i (passes ++ pass_at p.seen i ∷ [])
AreOfSlice-push ps p i passes are =
    let pass : PassValue SliceEntry = pass_at p.seen i in
    record {
      count = omega (arith, length_push passes pass, length_push ps p, are.count);
      each =
          by_thread (λ t q. pass_in (passes ++ pass ∷ []) t ≡ pass_at q.seen i) ps p
          (λ t before. get_or_append_left passes (pass ∷ []) no_pass t (omega (arith, before, are.count)) ∙ are.each t before)
          (get_or_push passes pass no_pass (length ps) are.count);
    }

module _ (script : ScriptValue) (tree : JournalName) (slices : List JournalName) (ps : List PassesValue) (p : PassesValue) (trees : List (PassValue TreeEntry)) (lists lists_now : List (Vec (PassValue SliceEntry) Global)) where
  of_kept : AreGathered script tree slices ps trees lists → IsThreadKept script tree slices p → HaveOneMore (length p.seen.slices) p.seen.slices lists lists_now → AreGathered script tree slices (ps ++ p ∷ []) (trees ++ p.seen.tree ∷ []) lists_now
  of_kept had kept more = record {
    kept = by_thread (λ t q. IsThreadKept script tree slices q) ps p had.kept kept;
    trees_count = omega (arith, length_push trees p.seen.tree, length_push ps p, had.trees_count);
    trees_are = λ t d within.
        by_thread (λ t q. slice_index_or (trees ++ p.seen.tree ∷ []) t d ≡ q.seen.tree) ps p
        (λ t before. get_or_append_left trees (p.seen.tree ∷ []) d t (omega (arith, before, had.trees_count)) ∙ had.trees_are t d before)
        (get_or_push trees p.seen.tree d (length ps) had.trees_count) t within;
    count = more.count ∙ had.count;
    lists_are = λ k i d at.
        subst (AreOfSlice (ps ++ p ∷ []) i) (sym (more.more k i d (omega (arith, at, kept.seen.count)) (omega (arith, at, kept.seen.count))))
        (AreOfSlice-push ps p i (slice_index_or lists k d).items (had.lists_are k i d at));
  }

  -- one thread more
  pub AreGathered-push : (s : SeenValue) → s ≡ p.seen → AreGathered script tree slices ps trees lists → IsSeen script tree slices s → PassesKeep script s.thread p.next (seen_by s) → HaveOneMore (length s.slices) s.slices lists lists_now
      → AreGathered script tree slices (ps ++ p ∷ []) (trees ++ s.tree ∷ []) lists_now
  AreGathered-push s same had seen keeps more =
      let kept : IsThreadKept script tree slices p = record {
        seen = subst (IsSeen script tree slices) same seen;
        keeps = subst (λ (s : SeenValue). PassesKeep script s.thread p.next (seen_by s)) same keeps;
      } in
      subst (λ (s : SeenValue). AreGathered script tree slices (ps ++ p ∷ []) (trees ++ s.tree ∷ []) lists_now) (sym same)
      (of_kept had kept (subst (λ (s : SeenValue). HaveOneMore (length s.slices) s.slices lists lists_now) same more))

-- a list is as long as there are threads in it
pub length-gathered : (script : ScriptValue) (tree : JournalName) (slices : List JournalName) (ps : List PassesValue) (trees : List (PassValue TreeEntry)) (lists : List (Vec (PassValue SliceEntry) Global)) (k : ℕ) (d : Vec (PassValue SliceEntry) Global)
    → AreGathered script tree slices ps trees lists → k < length lists → length (slice_index_or lists k d).items ≡ length ps
length-gathered script tree slices ps trees lists k d had within = (had.lists_are k (slice_count script.machine - k - 1) d (omega (arith, within, had.count))).count
