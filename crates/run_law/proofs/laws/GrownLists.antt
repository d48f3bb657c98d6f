-- One entry more in one slice, and one more in the tree's history.
use Rattle.std.proofs.Common.{◌≡◌, ℕ, ◌-◌, Bool, true, false, ◌⊎◌, inl, inr, List, [], ◌∷◌, ◌++◌, length, filter, get_or, refl, sym, ap, ◌∙◌, subst, arith}
use Rattle.std.specs.Prelude.{◌==◌, if◌then◌else◌}
use Rattle.std.proofs.lemmas.Bool.{cases_Bool, eqb-true}
use Rattle.std.proofs.lemmas.List.{append-nil}
use Rattle.std.proofs.lemmas.List.Elements.{filter-append}
use Rattle.cache_core.specs.declared.entry.SliceEntry.{SliceEntry}
use Rattle.run_law.specs.Journals.{At, JournalsValue, slice_at}
use Rattle.run_law.specs.Truth.{is_made_by}
use Rattle.run_law.specs.TreeHistory.{TreeEntryValue}
use Rattle.run_law.proofs.laws.Positions.{At-one, At-append}

module _ {A : Type 0} where
  -- this in one slice, and nothing in others
  abbrev pub only : ℕ → A → ℕ → List A
  only slice e i = if i == slice then e ∷ [] else []

  -- an element stood there, or it is the new one at the end
  abbrev pub Stood : List A → A → ℕ → A → Type 0
  Stood xs x k y = At xs k y ⊎ ((k ≡ length xs) × (y ≡ x))

  pub at_push : (xs : List A) (x : A) (k : ℕ) (y : A) → At (xs ++ x ∷ []) k y → Stood xs x k y
  at_push xs x k y h = elim (At-append xs (x ∷ []) k y h) [
    | inl front ↦ inl front
    | inr back ↦ let one = At-one x (k - length xs) y back.1 in inr (omega (arith, back.0, one.0), one.1)
  ]

  pub filter_push_false : (p : A → Bool) (xs : List A) (x : A) → p x ≡ false → filter p (xs ++ x ∷ []) ≡ filter p xs
  filter_push_false p xs x fails = filter-append p xs (x ∷ []) ∙ (let none : filter p (x ∷ []) ≡ [] = rw fails refl in ap (λ ys. filter p xs ++ ys) none ∙ append-nil (filter p xs))

  pub filter_push_true : (p : A → Bool) (xs : List A) (x : A) → p x ≡ true → filter p (xs ++ x ∷ []) ≡ filter p xs ++ x ∷ []
  filter_push_true p xs x holds = filter-append p xs (x ∷ []) ∙ (let one : filter p (x ∷ []) ≡ x ∷ [] = rw holds refl in ap (λ ys. filter p xs ++ ys) one)

-- ---- journals with more

-- the same tree, with these slices; the same slices, with this tree
abbrev pub with_slices : JournalsValue → List (List SliceEntry) → JournalsValue
with_slices j slices = record { tree = j.tree; slices = slices }

-- the journals with another history of the tree
abbrev pub with_tree : JournalsValue → List TreeEntryValue → JournalsValue
with_tree j tree = record { tree = tree; slices = j.slices }

-- these slices have one entry more, in slice i
abbrev pub Adds : JournalsValue → List (List SliceEntry) → ℕ → SliceEntry → Type 0
Adds j slices i e = (k : ℕ) → get_or slices k [] ≡ slice_at j k ++ only i e k

-- an entry of the slices stood there before, or it is the new one, at the end of its slice
abbrev pub StoodIn : JournalsValue → ℕ → SliceEntry → ℕ → ℕ → SliceEntry → Type 0
StoodIn j i e k p x = At (slice_at j k) p x ⊎ ((k ≡ i) × (p ≡ length (slice_at j k)) × (x ≡ e))

-- an entry stood there, or is the new one
pub stood : (j : JournalsValue) (slices : List (List SliceEntry)) (i : ℕ) (e : SliceEntry) → Adds j slices i e
    → (k p : ℕ) (x : SliceEntry) → At (get_or slices k []) p x → StoodIn j i e k p x
stood j slices i e adds k p x at =
    let there : At (slice_at j k ++ only i e k) p x = subst (λ xs. At xs p x) (adds k) at in
    elim (cases_Bool (k == i)) [
      | inl here ↦
          let both : At (slice_at j k ++ e ∷ []) p x = rw here at there in
          elim (at_push (slice_at j k) e p x both) [ inl old ↦ inl old | inr new ↦ inr (eqb-true k i here, new.0, new.1) ]
      | inr away ↦
          let both : At (slice_at j k ++ []) p x = rw away at there in
          inl (subst (λ xs. At xs p x) (append-nil (slice_at j k)) both)
    ]

-- what an op has in a slice, when another op has an entry more
pub made_as_before : (j : JournalsValue) (slices : List (List SliceEntry)) (i : ℕ) (e : SliceEntry) → Adds j slices i e
    → (k t op : ℕ) → is_made_by t op e ≡ false → filter (is_made_by t op) (slice_at j k) ≡ filter (is_made_by t op) (get_or slices k [])
made_as_before j slices i e adds k t op other =
    elim (cases_Bool (k == i)) [
      | inl here ↦
          let now : get_or slices k [] ≡ slice_at j k ++ e ∷ [] = adds k ∙ (rw here refl) in
          sym (ap (filter (is_made_by t op)) now ∙ filter_push_false (is_made_by t op) (slice_at j k) e other)
      | inr away ↦
          let now : get_or slices k [] ≡ slice_at j k = adds k ∙ (rw away (append-nil (slice_at j k))) in
          sym (ap (filter (is_made_by t op)) now)
    ]

-- what the op has whose entry it is
pub made_one_more : (j : JournalsValue) (slices : List (List SliceEntry)) (i : ℕ) (e : SliceEntry) → Adds j slices i e
    → (k t op : ℕ) → is_made_by t op e ≡ true → filter (is_made_by t op) (get_or slices k []) ≡ filter (is_made_by t op) (slice_at j k) ++ only i e k
made_one_more j slices i e adds k t op mine =
    elim (cases_Bool (k == i)) [
      | inl here ↦
          let now : get_or slices k [] ≡ slice_at j k ++ e ∷ [] = adds k ∙ (rw here refl) in
          ap (filter (is_made_by t op)) now ∙ (rw here (filter_push_true (is_made_by t op) (slice_at j k) e mine))
      | inr away ↦
          let now : get_or slices k [] ≡ slice_at j k = adds k ∙ (rw away (append-nil (slice_at j k))) in
          ap (filter (is_made_by t op)) now ∙ (rw away (sym (append-nil (filter (is_made_by t op) (slice_at j k)))))
    ]
