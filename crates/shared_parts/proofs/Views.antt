-- Views where one of them changes, or one is added.
use Rattle.std.proofs.Common.{◌≡◌, ◌⊎◌, inl, inr, ℕ, zero, suc, ◌<◌, true, List, [], ◌∷◌, ◌++◌, length, set, refl, sym, ◌∙◌, ap, subst, arith}
use mathlib.Core.Option.{some, some-injective, some-ne-none}
use lib.ListN.{get_elem?}
use Rattle.atomic_table.proofs.Lists.{at_set}
use Rattle.shared_parts.specs.Parts.{has}
use Rattle.shared_parts.specs.declared.view.View.{View}

module _ {A : Type 0} where
  -- a place that has something is within the list
  pub within-get_elem : (l : List A) (i : ℕ) (a : A) → get_elem? l i ≡ some a → i < length l
  within-get_elem [] i a e = absurd (some-ne-none a (sym e))
  within-get_elem (x ∷ xs) zero a e = omega arith
  within-get_elem (x ∷ xs) (suc i) a e = let h = within-get_elem xs i a e in omega arith

  -- where an element of a list with one more stands
  pub get_elem-push : (l : List A) (a b : A) (j : ℕ) → get_elem? (l ++ a ∷ []) j ≡ some b → (get_elem? l j ≡ some b) ⊎ ((j ≡ length l) × (a ≡ b))
  get_elem-push [] a b zero e = inr (refl, some-injective a b e)
  get_elem-push [] a b (suc j) e = absurd (some-ne-none b (sym e))
  get_elem-push (x ∷ xs) a b zero e = inl e
  get_elem-push (x ∷ xs) a b (suc j) e = elim (get_elem-push xs a b j e) [ inl there ↦ inl there | inr here ↦ inr (omega (arith, here.0), here.1) ]

module _ {P : Type 0} where
  -- no part is in two views
  abbrev pub IsApart : List (View P) → Type 0
  IsApart views = (i j : ℕ) (v w : View P) (k : ℕ) → get_elem? views i ≡ some v → get_elem? views j ≡ some w → has k v.parts ≡ true → has k w.parts ≡ true → i ≡ j

  -- where a view is given parts that it had, each part of a view was in the one that stood there
  pub has-set : (views : List (View P)) (id : ℕ) (v w : View P) → get_elem? views id ≡ some v → ((k : ℕ) → has k w.parts ≡ true → has k v.parts ≡ true)
      → (j : ℕ) (a : View P) (k : ℕ) → get_elem? (set views id w) j ≡ some a → has k a.parts ≡ true → (b : View P) × (get_elem? views j ≡ some b) × (has k b.parts ≡ true)
  has-set views id v w at less j a k e h = elim (at_set views id j w a e) [
    | inl here ↦ (v, ap (λ n. get_elem? views n) here.0 ∙ at, less k (subst (λ (x : View P). has k x.parts ≡ true) (sym here.1) h))
    | inr there ↦ (a, there.1, h)
  ]

  -- so no part is in two views
  pub IsApart-set : (views : List (View P)) (id : ℕ) (v w : View P) → get_elem? views id ≡ some v → ((k : ℕ) → has k w.parts ≡ true → has k v.parts ≡ true) → IsApart views → IsApart (set views id w)
  IsApart-set views id v w at less apart i j a b k ea eb ha hb =
      let p = has-set views id v w at less i a k ea ha in
      let q = has-set views id v w at less j b k eb hb in
      apart i j p.0 q.0 k p.1 q.1 p.2 q.2
