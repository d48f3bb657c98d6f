-- What a thread has seen only grows.
use Rattle.std.proofs.Common.{◌≡◌, ℕ, ◌==◌, inl, inr, List, [], ◌∷◌, ◌++◌, Option, None, Some, get_or, sym, ap, ◌∙◌, subst}
use Rattle.std.proofs.lemmas.Bool.{cases_Bool, eqb-false, eqb-true}
use Rattle.cache_core.specs.declared.entry.SliceEntry.{SliceEntry}
use Rattle.live_law.proofs.laws.Prefixes.{IsPrefix-no_more, IsPrefix-push}
use Rattle.live_law.proofs.laws.SeenJournals.{HasGrown-more, HasGrown-through}
use Rattle.live_law.specs.SeenJournals.{AddsEntry, HasGrown, is_by, is_from}
use Rattle.live_run.proofs.TakenTrees.{history_push}
use Rattle.live_run.proofs.Trees.{lists_of}
use Rattle.live_run.specs.Accesses.{HasAccessed}
use Rattle.live_run.specs.Names.{SeenValue, history_of, seen_by}
use Rattle.live_run.specs.Steps.{HasAdded, HasTaken, HasTouched}
use Rattle.rc_base.specs.declared.names.Tag.{Tag}
use Rattle.run_law.specs.Entries.{entry_value}
use Rattle.run_law.specs.Journals.{JournalsValue, slice_at}
use Rattle.run_law.specs.declared.journals.TreeEntry.{TreeEntry}
use Rattle.step_world.specs.declared.reached.Reached.{Reached}
use Rattle.script_ops.specs.Values.{ScriptValue}
use Rattle.seen_journal.proofs.laws.Prefixes.{IsPrefix-self, IsPrefix-through}
use Rattle.seen_journal.specs.Passes.{PassValue}
use Rattle.seen_journal.specs.Prefixes.{IsPrefix}

-- by an entry that is added
pub HasGrown-adds_entry : (t i : ℕ) (e : SliceEntry) (v w : JournalsValue) → AddsEntry t i e v w → HasGrown v w
HasGrown-adds_entry t i e v w adds = record {
  tree = IsPrefix-no_more (is_from t) v.tree w.tree adds.tree;
  slices = λ k. elim (cases_Bool (k == i)) [
    | inl here ↦
        let seen : IsPrefix (slice_at v i) adds.list = IsPrefix-no_more (is_by t) (slice_at v i) adds.list adds.sees in
        let all : IsPrefix (slice_at v i) (adds.list ++ e ∷ []) = IsPrefix-through (slice_at v i) adds.list (adds.list ++ e ∷ []) seen (IsPrefix-push adds.list e) in
        subst (λ x. IsPrefix (slice_at v x) (slice_at w x)) (sym (eqb-true k i here)) (subst (IsPrefix (slice_at v i)) (sym adds.adds) all)
    | inr away ↦ IsPrefix-no_more (is_by t) (slice_at v k) (slice_at w k) (adds.others k (eqb-false k i away))
  ];
}

pub HasGrown-added : (i : ℕ) (e : SliceEntry) (old new : SeenValue) → HasAdded i e old new → HasGrown (seen_by old) (seen_by new)
HasGrown-added i e old new added = HasGrown-adds_entry old.thread i e (seen_by old) (seen_by new) added.adds

-- by what others have seen
pub HasGrown-taken : (old new : SeenValue) → HasTaken old new → HasGrown (seen_by old) (seen_by new)
HasGrown-taken old new taken = HasGrown-more old.thread (seen_by old) (seen_by new) taken.sees

-- by an access
pub HasGrown-accessed : (script : ScriptValue) (op task cpu addr : ℕ) (r : Reached) (old new : SeenValue) → HasAccessed script op task cpu addr r old new → HasGrown (seen_by old) (seen_by new)
HasGrown-accessed script op task cpu addr r old new accessed =
    HasGrown-through (seen_by old) accessed.at (seen_by new) (HasGrown-more old.thread (seen_by old) accessed.at accessed.sees)
    (HasGrown-adds_entry old.thread _ _ accessed.at (seen_by new) accessed.adds)

-- by a touch
pub HasGrown-touched : (i op : ℕ) (tag : Tag) (line : ℕ) (old new : SeenValue) (r : Option Reached) → HasTouched i op tag line old new r → HasGrown (seen_by old) (seen_by new)
HasGrown-touched i op tag line old new None touched = HasGrown-more old.thread (seen_by old) (seen_by new) touched.0.sees
HasGrown-touched i op tag line old new (Some r) touched =
    let (mid, meets, added, tree) = touched in
    HasGrown-through (seen_by old) (seen_by mid) (seen_by new) (HasGrown-more old.thread (seen_by old) (seen_by mid) meets.sees) (HasGrown-added i _ mid new added)

-- by a command that is decided
pub HasGrown-decided : (thread : ℕ) (entry : TreeEntry) (old new : SeenValue) → new.tree.seen ≡ old.tree.seen ++ (thread, entry) ∷ [] → new.slices ≡ old.slices → HasGrown (seen_by old) (seen_by new)
HasGrown-decided thread entry old new seen same = record {
  tree = (entry_value entry ∷ [], sym (ap history_of seen ∙ history_push old.tree.seen thread entry));
  slices = λ i. subst (λ (ps : List (PassValue SliceEntry)). IsPrefix (slice_at (seen_by old) i) (get_or (lists_of ps) i [])) (sym same) (IsPrefix-self (slice_at (seen_by old) i));
}
