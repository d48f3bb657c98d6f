-- What stands before a position of a list, and what a longer list still has first.
use Rattle.std.proofs.Common.{◌≡◌, ℕ, zero, suc, ◌<◌, ◌≤◌, Bool, true, inl, inr, List, [], ◌∷◌, ◌++◌, length, filter, take, Option, Some, None, ap, ◌∙◌, arith}
use Rattle.std.specs.Prelude.{if◌then◌else◌}
use Rattle.std.proofs.lemmas.Bool.{cases_Bool}
use Rattle.cache_core.specs.declared.entry.SliceEntry.{SliceEntry}
use Rattle.run_law.specs.Journals.{At}
use Rattle.run_law.specs.Looks.{first_look, first_of, look_number}
use Rattle.run_law.specs.Truth.{is_made_by}

module _ {A : Type 0} where
  -- the front of a list has fewer that pass, where one stands after it
  pub less_in_front : (p : A → Bool) (xs : List A) (n q : ℕ) (x : A) → At xs q x → n ≤ q → p x ≡ true → length (filter p (take n xs)) < length (filter p xs)
  less_in_front p [] n q x at before passes = absurd cc
  less_in_front p (y ∷ xs) zero zero x at before passes =
      let same : y ≡ x = cc in
      rw (ap p same ∙ passes) (omega arith)
  less_in_front p (y ∷ xs) (suc n) zero x at before passes = absurd (omega arith)
  less_in_front p (y ∷ xs) zero (suc q) x at before passes = elim (cases_Bool (p y)) [
    | inl also ↦ rw also (omega arith)
    | inr other ↦ rw other (less_in_front p xs zero q x at (omega arith) passes)
  ]
  less_in_front p (y ∷ xs) (suc n) (suc q) x at before passes = elim (cases_Bool (p y)) [
    | inl also ↦ rw also (omega (arith, less_in_front p xs n q x at (omega arith) passes))
    | inr other ↦ rw other (less_in_front p xs n q x at (omega arith) passes)
  ]

-- a look that was found stays the first
pub first_look_stays : (t n rmid lines : ℕ) (xs ys : List SliceEntry) → first_look t n rmid xs ≡ Some lines → first_look t n rmid (xs ++ ys) ≡ Some lines
first_look_stays t n rmid lines [] ys h = absurd cc
first_look_stays t n rmid lines (x ∷ xs) ys h =
    first_stays (if is_made_by t n x then look_number rmid x.what else None) (first_look t n rmid xs) (first_look t n rmid (xs ++ ys)) lines (λ found. first_look_stays t n rmid lines xs ys found) h
  where
    first_stays : (o rest more : Option ℕ) (lines : ℕ) → (rest ≡ Some lines → more ≡ Some lines) → first_of o rest ≡ Some lines → first_of o more ≡ Some lines
    first_stays None rest more lines go h = go h
    first_stays (Some x) rest more lines go h = h
