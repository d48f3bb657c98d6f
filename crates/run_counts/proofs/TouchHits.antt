-- What the entries of a run say of the touches of its commands.
use Rattle.std.proofs.Common.{◌≡◌, ℕ, ◌+◌, ◌<◌, ◌==◌, ◌&&◌, Bool, true, false, cond, List, [], ◌∷◌, ◌++◌, length, map, filter, get_or, take, Option, None, Some, refl, sym, ap, ◌∙◌, subst, arith, inl, inr}
use Rattle.std.specs.Prelude.{slice_index_or}
use Rattle.std.specs.List.{AllByRecursion, flat_map}
use Rattle.std.specs.Option.{option_map, option_or}
use Rattle.std.proofs.lemmas.Bool.{cases_Bool, eq-eqb, eqb-false, eqb-true, and_right}
use Rattle.std.proofs.lemmas.Grind.{flat_map-append}
use Rattle.std.proofs.lemmas.List.{append-nil, take_more}
use Rattle.std.proofs.lemmas.Option.{slice_get-map, slice_get_read}
use Rattle.cache_core.specs.declared.entry.SliceEntry.{SliceEntry}
use Rattle.cache_core.specs.Whats.{is_access, is_hit}
use Rattle.run_counts.specs.Touches.{Notes, accesses_by, first_hit, is_access_by, is_touch_of, touch_hit}
use Rattle.run_counts.proofs.TouchEpochs.{IsAccessAt, is_access-undecided, AreTouchesOf, AreTouchesOf-run}
use Rattle.run_law.specs.Entries.{entry_value}
use Rattle.run_law.specs.Journals.{At, JournalsValue}
use Rattle.run_law.specs.Owed.{paid_by}
use Rattle.run_law.specs.Runs.{IsRun}
use Rattle.run_law.specs.TreeHistory.{TreeEntryValue}
use Rattle.run_law.specs.Truth.{is_made_by}
use Rattle.run_law.specs.declared.journals.TreeEntry.{TreeEntry}
use Rattle.script_ops.specs.Values.{ScriptValue}
use Rattle.tree_law.specs.Steps.{next}
use Rattle.lists.proofs.Options.{option_or-assoc}

-- the first of two lists of entries
pub touch_hit-append : (k : ℕ) (h : TreeEntryValue) (xs ys : List SliceEntry) → touch_hit k h (xs ++ ys) ≡ option_or (touch_hit k h xs) (touch_hit k h ys)
touch_hit-append k h [] ys = refl
touch_hit-append k h (x ∷ xs) ys = at (is_touch_of k h x) (touch_hit-append k h xs ys)
  where
    at : (b : Bool) → touch_hit k h (xs ++ ys) ≡ option_or (touch_hit k h xs) (touch_hit k h ys) → cond b (Some (is_hit x.what)) (touch_hit k h (xs ++ ys)) ≡ option_or (cond b (Some (is_hit x.what)) (touch_hit k h xs)) (touch_hit k h ys)
    at true rest = refl
    at false rest = rest

-- an access of a command is its touch
is_touch_of-access : (k : ℕ) (h : TreeEntryValue) (e : SliceEntry) → (is_made_by h.thread h.op e ≡ true → IsAccessAt (k + 1) (paid_by e)) → is_access_by h e ≡ true → is_touch_of k h e ≡ true
is_touch_of-access k h e touch is = both (is_made_by h.thread h.op e) (is_access e.what) refl refl is
  where
    both : (a b : Bool) → is_made_by h.thread h.op e ≡ a → is_access e.what ≡ b → (a && b) ≡ true → (is_access_by h e && (e.epoch == k + 1)) ≡ true
    both true true made access given = rw is (eq-eqb e.epoch (k + 1) (touch made (is_access-undecided e.what ∙ access)))
    both true false made access given = absurd (let f : false ≡ true = given in cc)
    both false b made access given = absurd (let f : false ≡ true = given in cc)

-- the first of the accesses among some entries, and others after them
first_hit-append : (k : ℕ) (h : TreeEntryValue) (es rest : List SliceEntry) (more : Option Bool) → AreTouchesOf k h es → first_hit rest ≡ more
    → first_hit (filter (is_access_by h) es ++ rest) ≡ option_or (touch_hit k h es) more
first_hit-append k h [] rest more touches then = then
first_hit-append k h (e ∷ es) rest more touches then = elim (cases_Bool (is_access_by h e)) [
  | inl has ↦ let own : is_touch_of k h e ≡ true = is_touch_of-access k h e touches.0 has in rw (own, has) refl
  | inr lacks ↦
      let none : is_touch_of k h e ≡ false = ap (λ b. b && (e.epoch == k + 1)) lacks in
      rw (none, lacks) (first_hit-append k h es rest more touches.1 then)
]

-- the first of those of many lists
first_hit-flat_map : (k : ℕ) (h : TreeEntryValue) (all : List (List SliceEntry)) → AllByRecursion (AreTouchesOf k h) all
    → first_hit (flat_map (filter (is_access_by h)) all) ≡ touch_hit k h (flat_map (λ (es : List SliceEntry). es) all)
first_hit-flat_map k h [] touches = refl
first_hit-flat_map k h (es ∷ all) touches =
    first_hit-append k h es (flat_map (filter (is_access_by h)) all) (touch_hit k h (flat_map (λ (xs : List SliceEntry). xs) all)) touches.0 (first_hit-flat_map k h all touches.1)
    ∙ sym (touch_hit-append k h es (flat_map (λ (xs : List SliceEntry). xs) all))

-- the touch of a command in a run, as its first access says
pub first_hit-run : (script : ScriptValue) (j : JournalsValue) (k : ℕ) (h : TreeEntryValue) → IsRun script j → At j.tree k h
    → first_hit (accesses_by j h.thread h.op) ≡ touch_hit k h (flat_map (λ (es : List SliceEntry). es) j.slices)
first_hit-run script j k h run there = first_hit-flat_map k h j.slices (AreTouchesOf-run script j k h run there)

-- ---- the pass over the entries

-- the entry at a position
pub At-entry : (es : List TreeEntry) (k : ℕ) (e : TreeEntry) → k < length es → e ≡ get_or es k e → At (map entry_value es) k (entry_value e)
At-entry es k e within is = slice_get-map entry_value es k ∙ ap (option_map entry_value) (slice_get_read es (length es) k e refl within is)

-- an entry that this command did not make, at the position of its epoch, is no touch
pub is_touch_of-other : (tree : List TreeEntry) (at : ℕ) (command : TreeEntry) (e : SliceEntry) → at < length tree → command ≡ get_or tree at command → e.epoch ≡ at + 1 → is_access_by (entry_value command) e ≡ false
    → (k : ℕ) (h : TreeEntryValue) → At (map entry_value tree) k h → is_touch_of k h e ≡ false
is_touch_of-other tree at command e within is epoch lacks k h there = elim (cases_Bool (at == k)) [
  | inl here ↦
      let same : at ≡ k = eqb-true at k here in
      let own : At (map entry_value tree) at (entry_value command) = At-entry tree at command within is in
      let entry : entry_value command ≡ h = let both : Some (entry_value command) ≡ Some h = sym own ∙ subst (λ i. At (map entry_value tree) i h) (sym same) there in cc in
      ap (λ b. b && (e.epoch == k + 1)) (ap (λ x. is_access_by x e) (sym entry) ∙ lacks)
  | inr apart ↦ and_right (is_access_by h e) (e.epoch == k + 1) (elim (cases_Bool (e.epoch == k + 1)) [
    | inl equal ↦ absurd (eqb-false at k apart (let next : e.epoch ≡ k + 1 = eqb-true e.epoch (k + 1) equal in omega arith))
    | inr differ ↦ differ
  ])
]

-- one more entry
pub Notes-more : (tree : List TreeEntryValue) (old now new : List (Option Bool)) (es : List SliceEntry) (i : ℕ) (d : SliceEntry) → i < length es
    → Notes tree old now (take i es) → Notes tree now new (get_or es i d ∷ []) → Notes tree old new (take (i + 1) es)
Notes-more tree old now new es i d within before last k h there =
    last k h there
    ∙ (ap (λ o. option_or o (touch_hit k h (get_or es i d ∷ []))) (before k h there)
    ∙ (option_or-assoc (slice_index_or old k None) (touch_hit k h (take i es)) (touch_hit k h (get_or es i d ∷ []))
    ∙ ap (option_or (slice_index_or old k None)) (sym (touch_hit-append k h (take i es) (get_or es i d ∷ [])) ∙ ap (touch_hit k h) (sym (take_more es i d within)))))

-- one more slice
pub touch_hit-more : (k : ℕ) (h : TreeEntryValue) (all : List (List SliceEntry)) (i : ℕ) → i < length all
    → touch_hit k h (flat_map (λ (es : List SliceEntry). es) (take (i + 1) all)) ≡ option_or (touch_hit k h (flat_map (λ (es : List SliceEntry). es) (take i all))) (touch_hit k h (slice_index_or all i []))
touch_hit-more k h all i within =
    ap (touch_hit k h)
    (ap (flat_map (λ (es : List SliceEntry). es)) (take_more all i [] within)
    ∙ (flat_map-append (λ (es : List SliceEntry). es) (take i all) (get_or all i [] ∷ []) ∙ ap (λ es. flat_map (λ (xs : List SliceEntry). xs) (take i all) ++ es) (append-nil (get_or all i []))))
    ∙ touch_hit-append k h (flat_map (λ (es : List SliceEntry). es) (take i all)) (get_or all i [])
