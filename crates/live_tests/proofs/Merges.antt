-- An entry more in the one order.
use Rattle.std.proofs.Common.{◌≡◌, inl, inr, ℕ, ◌+◌, ◌*◌, ◌==◌, true, Bool, List, [], ◌∷◌, ◌++◌, refl, sym, ◌∙◌, ap, subst, arith, append-nil}
use Rattle.std.specs.Prelude.{filter, if◌then◌else◌, ◌||◌}
use Rattle.std.proofs.lemmas.List.Elements.{filter-append}
use Rattle.std.proofs.lemmas.Bool.{cases_Bool, cond-true, cond-false, eqb-true, eqb-false, eq-eqb, ne_eqb, or_left, or_right, or_from}
use Rattle.live_tests.specs.declared.entry.Entry.{Entry}
use Rattle.live_tests.specs.declared.entry.Part.{Part}
use Rattle.live_tests.specs.Merged.{IsMerged, is_by, is_in, added, opening, part_of_list, part_of_thread, shown}
use Rattle.shared_parts.specs.Parts.{Fits, IsQuiet, MayHappen, has, state_after}
use Rattle.shared_parts.proofs.laws.Parts.{has-head, has-tail}

-- a filter of a list with one more
filter-push : (p : Entry → Bool) (xs : List Entry) (e : Entry) → filter p (xs ++ e ∷ []) ≡ (if p e then filter p xs ++ e ∷ [] else filter p xs)
filter-push p xs e = elim (cases_Bool (p e)) [
  | inl t ↦ filter-append p xs (e ∷ []) ∙ (ap (λ l. filter p xs ++ l) (cond-true (p e) (e ∷ []) [] t) ∙ sym (cond-true (p e) (filter p xs ++ e ∷ []) (filter p xs) t))
  | inr f ↦ filter-append p xs (e ∷ []) ∙ (ap (λ l. filter p xs ++ l) (cond-false (p e) (e ∷ []) [] f) ∙ (append-nil (filter p xs) ∙ sym (cond-false (p e) (filter p xs ++ e ∷ []) (filter p xs) f)))
]

-- a part that has the entries that meet a test still has them once one more is added
entries-added : (e : Entry) (xs : List (ℕ × Part)) (at : ℕ → Part) (all : List Entry) (k : ℕ) (p : Entry → Bool)
    → ((p e ≡ true) → has k xs ≡ true)
    → (((2 * e.list == k) || (2 * e.thread + 1 == k)) ≡ p e)
    → (at k).entries ≡ filter p all → (state_after added e xs at k).entries ≡ filter p (all ++ e ∷ [])
entries-added e xs at all k p own test is = elim (cases_Bool (p e)) [
  | inl t ↦
      ap (λ (b : Part). b.entries) (cond-true (has k xs) (added e k (at k)) (at k) (own t) ∙ cond-true ((2 * e.list == k) || (2 * e.thread + 1 == k)) (record { entries = (at k).entries ++ e ∷ [] }) (at k) (test ∙ t))
      ∙ (ap (λ l. l ++ e ∷ []) is ∙ (sym (cond-true (p e) (filter p all ++ e ∷ []) (filter p all) t) ∙ sym (filter-push p all e)))
  | inr f ↦
      let same : added e k (at k) ≡ at k = cond-false ((2 * e.list == k) || (2 * e.thread + 1 == k)) (record { entries = (at k).entries ++ e ∷ [] }) (at k) (test ∙ f) in
      let left : state_after added e xs at k ≡ at k = elim (cases_Bool (has k xs)) [
        | inl h ↦ cond-true (has k xs) (added e k (at k)) (at k) h ∙ same
        | inr h ↦ cond-false (has k xs) (added e k (at k)) (at k) h
      ] in
      ap (λ (b : Part). b.entries) left ∙ (is ∙ (sym (cond-false (p e) (filter p all ++ e ∷ []) (filter p all) f) ∙ sym (filter-push p all e)))
]

-- an entry changes the part of a list where it is in that list
is_in-number : (e : Entry) (i : ℕ) → ((2 * e.list == 2 * i) || (2 * e.thread + 1 == 2 * i)) ≡ (e.list == i)
is_in-number e i = elim (cases_Bool (e.list == i)) [
  | inl t ↦ or_left (2 * e.list == 2 * i) (2 * e.thread + 1 == 2 * i) (eq-eqb (2 * e.list) (2 * i) (ap (λ n. 2 * n) (eqb-true e.list i t))) ∙ sym t
  | inr f ↦ or_from (2 * e.list == 2 * i) (2 * e.thread + 1 == 2 * i) (ne_eqb (2 * e.list) (2 * i) (λ h. eqb-false e.list i f (omega (arith, h)))) (ne_eqb (2 * e.thread + 1) (2 * i) (λ h. omega (arith, h))) ∙ sym f
]

-- and the part of a thread where that thread added it
is_by-number : (e : Entry) (t : ℕ) → ((2 * e.list == 2 * t + 1) || (2 * e.thread + 1 == 2 * t + 1)) ≡ (e.thread == t)
is_by-number e t = elim (cases_Bool (e.thread == t)) [
  | inl h ↦ or_right (2 * e.list == 2 * t + 1) (2 * e.thread + 1 == 2 * t + 1) (eq-eqb (2 * e.thread + 1) (2 * t + 1) (ap (λ n. 2 * n + 1) (eqb-true e.thread t h))) ∙ sym h
  | inr f ↦ or_from (2 * e.list == 2 * t + 1) (2 * e.thread + 1 == 2 * t + 1) (ne_eqb (2 * e.list) (2 * t + 1) (λ h. omega (arith, h))) (ne_eqb (2 * e.thread + 1) (2 * t + 1) (λ h. eqb-false e.thread t f (omega (arith, h)))) ∙ sym f
]

-- an entry may be added to parts that have its list and its thread
pub MayHappen-added : (e : Entry) (xs : List (ℕ × Part)) → has (2 * e.list) xs ≡ true → has (2 * e.thread + 1) xs ≡ true → MayHappen IsMerged added e xs
MayHappen-added e xs of_list of_thread at m fit = record {
  all = m.all ++ e ∷ [];
  lists = λ i. entries-added e xs at m.all (2 * i) (is_in i) (λ h. subst (λ n. has (2 * n) xs ≡ true) (eqb-true e.list i h) of_list) (is_in-number e i) (m.lists i);
  threads = λ t. entries-added e xs at m.all (2 * t + 1) (is_by t) (λ h. subst (λ n. has (2 * n + 1) xs ≡ true) (eqb-true e.thread t h) of_thread) (is_by-number e t) (m.threads t);
}

-- the parts at the start are those of no entry
pub opening_is_merged : (at : ℕ → Part) × IsMerged at × Fits at opening × (shown (at 0) ≡ 0)
opening_is_merged = ((λ k. record { entries = [] }), record { all = []; lists = λ i. refl; threads = λ t. refl }, (refl, (refl, (refl, (refl, tt)))), refl)

-- an entry shows nothing
pub entry_is_quiet : (e : Entry) (xs : List (ℕ × Part)) → IsQuiet shown added e xs
entry_is_quiet e [] = tt
entry_is_quiet e (x ∷ xs) = ((λ _. refl), entry_is_quiet e xs)

-- an entry may be added to list i by thread t
pub MayHappen-entry : (e : Entry) (i t : ℕ) (list own : List Entry) (xs ys : List (ℕ × Part)) → e.list ≡ i → e.thread ≡ t
    → xs ≡ part_of_list i list ∷ [] → ys ≡ part_of_thread t own ∷ [] → MayHappen IsMerged added e (xs ++ ys)
MayHappen-entry e i t list own xs ys of_list of_thread is are =
    let whole : xs ++ ys ≡ part_of_list i list ∷ part_of_thread t own ∷ [] = λ j. is j ++ are j in
    let first : has (2 * e.list) (part_of_list i list ∷ part_of_thread t own ∷ []) ≡ true =
    subst (λ n. has (2 * n) (part_of_list i list ∷ part_of_thread t own ∷ []) ≡ true) (sym of_list) (has-head (part_of_list i list) (part_of_thread t own ∷ [])) in
    let second : has (2 * e.thread + 1) (part_of_list i list ∷ part_of_thread t own ∷ []) ≡ true =
    subst (λ n. has (2 * n + 1) (part_of_list i list ∷ part_of_thread t own ∷ []) ≡ true) (sym of_thread) (has-tail (2 * t + 1) (part_of_list i list) (part_of_thread t own ∷ []) (has-head (part_of_thread t own) [])) in
    subst (λ l. MayHappen IsMerged added e l) (sym whole) (MayHappen-added e (part_of_list i list ∷ part_of_thread t own ∷ []) first second)
