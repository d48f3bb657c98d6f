-- Words and places of a table.
use Rattle.std.proofs.Common.{◌≡◌, ◌⊎◌, inl, inr, ℕ, zero, suc, ◌+◌, ◌%◌, ◌<◌, ◌^◌, ◌==◌, false, List, [], ◌∷◌, ◌++◌, length, get_or, set, refl, sym, ◌∙◌, ap, arith}
use Rattle.std.proofs.lemmas.List.{set-get_or}
use Rattle.std.proofs.lemmas.Bool.{cases_Bool, eqb-true}
use mathlib.Core.Option.{some, some-injective, some-ne-none}
use prog.Atomic.{either}
use lib.ListN.{get_elem?}
use Rattle.atomic_table.proofs.Lists.{exchanged}

module _ {A : Type 0} where
  -- a place that has something is within the list
  pub within-get_elem : (l : List A) (i : ℕ) (a : A) → get_elem? l i ≡ some a → i < length l
  within-get_elem [] i a e = absurd (some-ne-none a (sym e))
  within-get_elem (x ∷ xs) zero a e = omega arith
  within-get_elem (x ∷ xs) (suc i) a e = let h = within-get_elem xs i a e in omega arith

-- where an element of a list with one more stands
pub get_elem-push : {A : Type 0} (l : List A) (a b : A) (j : ℕ) → get_elem? (l ++ a ∷ []) j ≡ some b → (get_elem? l j ≡ some b) ⊎ ((j ≡ length l) × (a ≡ b))
get_elem-push [] a b zero e = inr (refl, some-injective a b e)
get_elem-push [] a b (suc j) e = absurd (some-ne-none b (sym e))
get_elem-push (x ∷ xs) a b zero e = inl e
get_elem-push (x ∷ xs) a b (suc j) e = elim (get_elem-push xs a b j e) [ inl there ↦ inl there | inr here ↦ inr (omega (arith, here.0), here.1) ]

-- the word counts one more
pub set-count : (words : List ℕ) (n : ℕ) → words ≡ n ∷ [] → n + 1 < 2 ^ 64 → set words 0 ((get_or words 0 0 + 1) % 2 ^ 64) ≡ (n + 1) ∷ []
set-count words n is room = rw is (ap (λ k. k ∷ []) (omega arith))

-- an exchange of a number for itself
pub either-same : (n x : ℕ) → either (n == x) x n ≡ n
either-same n x = exchanged n x x (λ k. k ≡ n) (λ e. sym e) (λ _. refl)

-- changes no word
pub set-either : (words : List ℕ) (x : ℕ) → set words 0 (either (get_or words 0 0 == x) x (get_or words 0 0)) ≡ words
set-either words x = ap (λ k. set words 0 k) (either-same (get_or words 0 0) x) ∙ set-get_or words 0 0

-- a number below another is not equal to it
pub eqb-less : (n m : ℕ) → n < m → (n == m) ≡ false
eqb-less n m less = elim (cases_Bool (n == m)) [ inl same ↦ absurd (let e = eqb-true n m same in omega (arith, e, less)) | inr other ↦ other ]
