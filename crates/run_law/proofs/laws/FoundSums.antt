-- What the looks of a command found, as sums.
use Rattle.std.proofs.Common.{◌≡◌, ◌≢◌, ℕ, zero, suc, ◌+◌, ◌*◌, ◌<◌, ◌≤◌, inl, inr, List, [], ◌∷◌, ◌++◌, length, map, get_or, slice_get, Some, sym, ap, ◌∙◌, refl, arith}
use Rattle.std.specs.List.{AllPairs}
use Rattle.std.proofs.lemmas.Bool.{cases_lt}
use Rattle.std.proofs.lemmas.List.{get_or_append_left, get_or_push}
use Rattle.std.proofs.lemmas.Option.{get_or_from_slice_get, slice_get_within}
use Rattle.lists.proofs.Sums.{sum_below-same, sum_below-suc}
use Rattle.run_law.proofs.laws.Positions.{At-last}
use Rattle.run_law.specs.FoundLooks.{AreDistinct, found_at}
use Rattle.run_law.specs.Journals.{At}

-- ---- lists

-- an element of a mapped list
pub At-map : {A B : Type 0} (f : A → B) (xs : List A) (k : ℕ) (x : A) → At xs k x → At (map f xs) k (f x)
At-map f [] k x at = absurd cc
At-map f (y ∷ xs) zero x at = (let same : y ≡ x = cc in ap (λ z. Some (f z)) same)
At-map f (y ∷ xs) (suc k) x at = At-map f xs k x at

-- elements that differ pair by pair stand once each
pub AreDistinct-pairs : (xs : List (ℕ × ℕ)) → AllPairs (λ (a b : ℕ × ℕ). a ≢ b) xs → AreDistinct xs
AreDistinct-pairs xs pairs q r x first second = elim (cases_lt q r) [
  | inl less ↦ absurd (pairs q r x less (slice_get_within xs r x second) (get_or_from_slice_get xs q x x first ∙ sym (get_or_from_slice_get xs r x x second)))
  | inr more ↦ elim (cases_lt r q) [
    | inl less ↦ absurd (pairs r q x less (slice_get_within xs q x first) (get_or_from_slice_get xs r x x second ∙ sym (get_or_from_slice_get xs q x x first)))
    | inr same ↦ omega (arith, more, same)
  ]
]

-- an element before the last, and the last
pub get-push_front : (xs : List ℕ) (x k : ℕ) → k < length xs → slice_get (xs ++ x ∷ []) k ≡ slice_get xs k
get-push_front [] x k h = absurd (omega arith)
get-push_front (y ∷ xs) x zero h = refl
get-push_front (y ∷ xs) x (suc k) h = get-push_front xs x k (omega arith)

pub get-push_last : (xs : List ℕ) (x k : ℕ) → k ≡ length xs → slice_get (xs ++ x ∷ []) k ≡ Some x
get-push_last xs x k is = ap (slice_get (xs ++ x ∷ [])) is ∙ At-last xs x

-- ---- sums

-- what was found before is as it was with one number more
pub found_at-push : (slices : ℕ) (found : List ℕ) (lines q number : ℕ) → q * slices + number ≤ length found → found_at slices (found ++ lines ∷ []) q number ≡ found_at slices found q number
found_at-push slices found lines q number fits = sum_below-same number (λ x. get_or (found ++ lines ∷ []) (q * slices + x) 0) (λ x. get_or found (q * slices + x) 0)
    (λ x below. get_or_append_left found (lines ∷ []) 0 (q * slices + x) (omega (arith, fits, below)))

-- the number that was found last adds to its sum
pub found_at-last : (slices : ℕ) (found : List ℕ) (lines q number : ℕ) → length found ≡ q * slices + number → found_at slices (found ++ lines ∷ []) q (number + 1) ≡ found_at slices found q number + lines
found_at-last slices found lines q number is =
    sum_below-suc number (λ x. get_or (found ++ lines ∷ []) (q * slices + x) 0)
    ∙ (ap (λ k. k + get_or (found ++ lines ∷ []) (q * slices + number) 0) (found_at-push slices found lines q number (omega (arith, is)))
    ∙ ap (λ k. found_at slices found q number + k) (get_or_push found lines 0 (q * slices + number) is))
