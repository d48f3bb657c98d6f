-- The elements of a list, one after the other.
use Rattle.std.proofs.Common.{◌≡◌, ℕ, suc, ◌+◌, ◌<◌, Bool, true, List, ◌∷◌, drop, find, get_or, is_some, length, None, Option, Some, refl, sym, ap, ◌∙◌, add-one, drop-cons}
use Rattle.pair_tree.specs.Places.{FindsPlace}

-- what is left of a list begins with the element at that place
pub drop-item : {X : Type 0} (xs : List X) (i : ℕ) (x : X) → i < length xs → x ≡ get_or xs i x → drop i xs ≡ x ∷ drop (i + 1) xs
drop-item xs i x within is = rw (add-one, drop-cons xs i x within) (ap (λ y. y ∷ drop (suc i) xs) (sym is))

-- the first that is left passes
pub find-taken : {X : Type 0} (p : X → Bool) (xs rest : List X) (x : X) → xs ≡ x ∷ rest → p x ≡ true → find p xs ≡ Some x
find-taken p xs rest x is passes = ap (find p) is ∙ rw passes refl

-- one is found exactly where its place is
pub is_some-found : {X : Type 0} (p : X → Bool) (xs : List X) (place : Option ℕ) → FindsPlace p xs place → is_some place ≡ is_some (find p xs)
is_some-found p xs None found = ap is_some (sym found)
is_some-found p xs (Some i) found = ap is_some (sym found.2)
