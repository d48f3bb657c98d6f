-- The cells of the slices before the first op.
use Rattle.std.proofs.Common.{◌≡◌, ℕ, ◌+◌, ◌<◌, ◌≤◌, inl, inr, List, [], ◌∷◌, ◌++◌, length, append-nil, refl, sym, ap, ◌∙◌, subst, arith}
use Rattle.std.proofs.lemmas.Bool.{cases_lt}
use Rattle.std.proofs.lemmas.List.{get_or_append_left, get_or_push, length_push}
use Rattle.atomic_table.specs.Seated.{TableId}
use Rattle.cache_core.specs.History.{IsLegal}
use Rattle.cache_core.specs.Stands.{StandsFor}
use Rattle.live_run.specs.Cells.{SliceCellValue, SliceIsKept}
use Rattle.live_run.specs.Logs.{LogValue, log_at}
use Rattle.live_run.specs.Names.{name_at, no_name}
use Rattle.live_run.specs.Openings.{AreOfSlices, AreParts, AreSettled, part_at}
use Rattle.live_run.specs.Sharing.{IsShareOf}
use Rattle.machine.specs.Slices.{slice_count}
use Rattle.run_law.specs.Slices.{shape_in}
use Rattle.run_law.specs.declared.journals.TreeEntry.{TreeEntry}
use Rattle.schedule_law.specs.LiveParts.{live_slice}
use Rattle.script_ops.specs.Values.{IsLawful, ScriptValue}
use Rattle.seen_journal.specs.Journals.{JournalName}

-- What is empty, and of these names.
pub record IsFresh (script : ScriptValue) (table : TableId) (tree slice : JournalName) (i : ℕ) (c : SliceCellValue) : Type 0 where
  pub journal_is : c.journal.name ≡ slice
  pub no_entries : c.journal.entries ≡ []
  pub pass_is : c.tree.name ≡ tree
  pub none_seen : c.tree.seen ≡ []
  pub shape : c.cache.shape ≡ shape_in script.machine i
  pub rmids : c.cache.rmids ≡ script.machine.rmids
  pub stands : StandsFor c.cache []
  pub share_is : IsShareOf table (live_slice i [] ∷ []) c.share

-- it may go into the slice's cell
SliceIsKept-fresh : (script : ScriptValue) (table : TableId) (tree slice : JournalName) (i : ℕ) (c : SliceCellValue) → IsLawful script → i < slice_count script.machine → IsFresh script table tree slice i c → SliceIsKept script table tree slice i c
SliceIsKept-fresh script table tree slice i c lawful within fresh = record {
  lawful = lawful;
  within = within;
  journal_is = fresh.journal_is;
  pass_is = fresh.pass_is;
  shape = fresh.shape;
  rmids = fresh.rmids;
  stands = rw fresh.no_entries fresh.stands;
  keeps = rw (fresh.no_entries, fresh.none_seen) (record { legal = subst (λ s. IsLegal s []) fresh.shape fresh.stands.legal; stands = tt });
  threads = rw fresh.no_entries (λ k x at. absurd cc);
  few = omega (arith, ap length fresh.no_entries);
  tree_threads = rw fresh.none_seen (λ k x at. absurd cc);
  share_is = rw fresh.no_entries fresh.share_is;
}

-- one journal less, and one part more
pub AreParts-push : (script : ScriptValue) (table : TableId) (tree : JournalName) (slices : List JournalName) (logs rest : List LogValue) (log : LogValue) (parts : List SliceCellValue) (c : SliceCellValue) → IsLawful script → length logs ≤ slice_count script.machine
    → logs ≡ rest ++ log ∷ [] → AreOfSlices slices (length logs) logs → (log.name ≡ name_at slices (length rest) → IsFresh script table tree (name_at slices (length rest)) (length rest) c) → AreParts script table tree slices (length logs) parts → AreParts script table tree slices (length rest) (parts ++ c ∷ [])
AreParts-push script table tree slices logs rest log parts c lawful few taken are fresh all =
    let i : ℕ = length rest in
    let one_more : length logs ≡ i + 1 = ap length taken ∙ length_push rest log in
    let is_last : log_at logs i ≡ log = ap (λ ls. log_at ls i) taken ∙ get_or_push rest log (record { name = no_name; left = 0 }) i refl in
    let name : log.name ≡ name_at slices i = sym (ap (λ (l : LogValue). l.name) is_last) ∙ are.names i (omega (arith, one_more)) in
    let kept : SliceIsKept script table tree (name_at slices i) i c = SliceIsKept-fresh script table tree (name_at slices i) i c lawful (omega (arith, few, one_more)) (fresh name) in
    record {
      count = omega (arith, length_push parts c, all.count, few, one_more);
      each = λ k n d within at. elim (cases_lt k (length parts)) [
        | inl before ↦
            subst (SliceIsKept script table tree (name_at slices n) n) (sym (get_or_append_left parts (c ∷ []) d k before)) (all.each k n d before at)
        | inr after ↦
            let last : k ≡ length parts = omega (arith, within, after, length_push parts c) in
            let same : i ≡ n = omega (arith, last, at, all.count, few, one_more) in
            subst (SliceIsKept script table tree (name_at slices n) n) (sym (get_or_push parts c d k (sym last)))
            (subst (λ n. SliceIsKept script table tree (name_at slices n) n c) same kept)
      ];
    }

-- the journals that are left
pub AreOfSlices-rest : (slices : List JournalName) (logs rest : List LogValue) (log : LogValue) → logs ≡ rest ++ log ∷ [] → AreOfSlices slices (length logs) logs → AreOfSlices slices (length rest) rest
AreOfSlices-rest slices logs rest log taken are = record {
  count = refl;
  names = λ i within.
      let same : log_at logs i ≡ log_at rest i = ap (λ ls. log_at ls i) taken ∙ get_or_append_left rest (log ∷ []) (record { name = no_name; left = 0 }) i within in
      sym (ap (λ (l : LogValue). l.name) same) ∙ are.names i (omega (arith, within, ap length taken, length_push rest log));
}

-- ---- cells filled, and emptied

-- what goes into the first cell is the last part
pub AreParts-last : (script : ScriptValue) (table : TableId) (tree : JournalName) (slices : List JournalName) (first : ℕ) (parts rest : List SliceCellValue) (c : SliceCellValue) → parts ≡ rest ++ c ∷ [] → AreParts script table tree slices first parts
    → SliceIsKept script table tree (name_at slices first) first c
AreParts-last script table tree slices first parts rest c taken are =
    let count : length parts ≡ length rest + 1 = ap length taken ∙ length_push rest c in
    let last : part_at parts (length rest) c ≡ c = ap (λ ps. part_at ps (length rest) c) taken ∙ get_or_push rest c c (length rest) refl in
    subst (SliceIsKept script table tree (name_at slices first) first) last (are.each (length rest) first c (omega (arith, count)) (omega (arith, count, are.count)))

-- and the others go into those after it
pub AreParts-rest : (script : ScriptValue) (table : TableId) (tree : JournalName) (slices : List JournalName) (first : ℕ) (parts rest : List SliceCellValue) (c : SliceCellValue) → parts ≡ rest ++ c ∷ [] → AreParts script table tree slices first parts → AreParts script table tree slices (first + 1) rest
AreParts-rest script table tree slices first parts rest c taken are =
    let count : length parts ≡ length rest + 1 = ap length taken ∙ length_push rest c in
    record {
      count = omega (arith, count, are.count);
      each = λ k i d within at.
          let same : part_at parts k d ≡ part_at rest k d = ap (λ ps. part_at ps k d) taken ∙ get_or_append_left rest (c ∷ []) d k within in
          subst (SliceIsKept script table tree (name_at slices i) i) same (are.each k i d (omega (arith, within, count)) at);
    }

-- where there is none, there is none for those after it
pub AreParts-none : (script : ScriptValue) (table : TableId) (tree : JournalName) (slices : List JournalName) (first : ℕ) (parts rest : List SliceCellValue) → parts ≡ rest ++ [] → length parts ≡ 0 → AreParts script table tree slices first parts → AreParts script table tree slices (first + 1) rest
AreParts-none script table tree slices first parts rest same none are =
    let count : length parts ≡ length rest = ap length (same ∙ append-nil rest) in
    record {
      count = omega (arith, none, count, are.count);
      each = λ k i d within at. absurd (omega (arith, within, none, count));
    }

-- what was in one cell more
pub AreSettled-push : (script : ScriptValue) (table : TableId) (tree : JournalName) (slices : List JournalName) (history : List (ℕ × TreeEntry)) (i : ℕ) (parts : List SliceCellValue) (c : SliceCellValue) → SliceIsKept script table tree (name_at slices i) i c → c.tree.seen ≡ history
    → AreSettled script table tree slices history i parts → AreSettled script table tree slices history (i + 1) (parts ++ c ∷ [])
AreSettled-push script table tree slices history i parts c kept seen are =
    let here : length parts ≡ i = omega (arith, are.count, kept.within) in
    let by_place : (P : ℕ → SliceCellValue → Type 0) → ((k : ℕ) (d : SliceCellValue) → k < length parts → P k (part_at parts k d)) → P i c → (k : ℕ) (d : SliceCellValue) → k < length (parts ++ c ∷ []) → P k (part_at (parts ++ c ∷ []) k d) = (λ P each last k d within. elim (cases_lt k (length parts)) [
      | inl before ↦ subst (P k) (sym (get_or_append_left parts (c ∷ []) d k before)) (each k d before)
      | inr after ↦
          let same : i ≡ k = omega (arith, within, after, here, length_push parts c) in
          subst (P k) (sym (get_or_push parts c d k (here ∙ same))) (subst (λ k. P k c) same last)
    ]) in
    record {
      count = omega (arith, length_push parts c, here, kept.within);
      kept = by_place (λ k p. SliceIsKept script table tree (name_at slices k) k p) are.kept kept;
      seen = by_place (λ k p. p.tree.seen ≡ history) are.seen seen;
    }
