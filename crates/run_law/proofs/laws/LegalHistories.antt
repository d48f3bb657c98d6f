-- Legal histories with one entry more.
use Rattle.std.proofs.Common.{◌≡◌, ℕ, suc, ◌+◌, ◌≤◌, inl, inr, List, [], ◌∷◌, ◌++◌, length, map, get_or, Some, refl, sym, ◌∙◌, subst, arith}
use Rattle.std.specs.Prelude.{◌==◌}
use Rattle.std.proofs.lemmas.Bool.{cases_Bool, eqb-true}
use Rattle.std.proofs.lemmas.List.{append-nil}
use Rattle.cache_core.specs.History.{IsLegal, EntryMayFollow, floor_of, sets_floor}
use Rattle.cache_core.specs.declared.entry.SliceEntry.{SliceEntry}
use Rattle.rc_base.proofs.laws.Histories.{GoesOn-push}
use Rattle.run_law.specs.Journals.{At, JournalsValue, slice_at}
use Rattle.run_law.specs.Looks.{lines_looked, needs_of}
use Rattle.run_law.specs.Slices.{shape_in}
use Rattle.run_law.specs.TreeHistory.{CommandMayFollow, TreeEntryValue, tree_after}
use Rattle.script_ops.specs.Values.{ScriptValue, op_at}
use Rattle.script_ops.specs.declared.op.Op.{Op}
use Rattle.tree_law.specs.Steps.{needs}
use Rattle.run_law.proofs.laws.MatchedLooks.{NoLook, matched_command, matched_entry}
use Rattle.run_law.proofs.laws.GrownLists.{Adds, with_slices, with_tree}
use Rattle.run_law.specs.Growth.{AreLegal}

-- one entry more
pub legal_entry : (script : ScriptValue) (j : JournalsValue) (slices : List (List SliceEntry)) (i : ℕ) (e : SliceEntry) → Adds j slices i e → length slices ≡ length j.slices
    → EntryMayFollow (shape_in script.machine i) (slice_at j i) e → ((k : ℕ) (h : TreeEntryValue) → At j.tree k h → NoLook h.thread h.op e)
    → AreLegal script j → AreLegal script (with_slices j slices)
legal_entry script j slices i e adds count may none legal = record {
  all_slices = count ∙ legal.all_slices;
  tree_legal = legal.tree_legal;
  slices_legal = λ k within.
      elim (cases_Bool (k == i)) [
        | inl here ↦
            let now : get_or slices k [] ≡ slice_at j k ++ e ∷ [] = adds k ∙ (rw here refl) in
            let its : EntryMayFollow (shape_in script.machine k) (slice_at j k) e = subst (λ x. EntryMayFollow (shape_in script.machine x) (slice_at j x) e) (sym (eqb-true k i here)) may in
            subst (λ es. IsLegal (shape_in script.machine k) es) (sym now) (GoesOn-push (EntryMayFollow (shape_in script.machine k)) [] (slice_at j k) e (legal.slices_legal k within) its)
        | inr away ↦
            let now : get_or slices k [] ≡ slice_at j k = adds k ∙ (rw away (append-nil (slice_at j k))) in
            subst (λ es. IsLegal (shape_in script.machine k) es) (sym now) (legal.slices_legal k within)
      ];
  looks_matched = matched_entry script j slices i e adds none legal.looks_matched;
}

-- one command more
pub legal_command : (script : ScriptValue) (j : JournalsValue) (h : TreeEntryValue) (op : Op) → op_at script h.thread h.op ≡ Some op → CommandMayFollow script j.tree h
    → map (λ n. Some n) h.looks ≡ map (lines_looked script j h) (needs script.machine (tree_after script j.tree) op)
    → AreLegal script j → AreLegal script (with_tree j (j.tree ++ h ∷ []))
legal_command script j h op is may given legal = record {
  all_slices = legal.all_slices;
  tree_legal = GoesOn-push (CommandMayFollow script) [] j.tree h legal.tree_legal may;
  slices_legal = legal.slices_legal;
  looks_matched = matched_command script j h
      (subst (λ o. map (λ n. Some n) h.looks ≡ map (lines_looked script j h) (needs_of script.machine (tree_after script j.tree) o)) (sym is) given) legal.looks_matched;
}

-- a floor is no epoch that no entry has
pub floor_within : (epoch : ℕ) (es : List SliceEntry) → ((p : ℕ) (e : SliceEntry) → At es p e → e.epoch ≤ epoch) → floor_of es ≤ epoch
floor_within epoch [] each = omega arith
floor_within epoch (e ∷ es) each =
    let rest = floor_within epoch es (λ p x there. each (p + 1) x (let next : p + 1 ≡ suc p = omega arith in subst (λ q. At (e ∷ es) q x) (sym next) there)) in
    let first = each 0 e refl in
    elim (cases_Bool (sets_floor e.what)) [
      | inl sets ↦ rw sets (omega (arith, rest, first))
      | inr other ↦ rw other (omega (arith, rest))
    ]
