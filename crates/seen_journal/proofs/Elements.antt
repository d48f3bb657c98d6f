-- What the elements of a list are.
use Rattle.std.proofs.Common.{◌≡◌, ℕ, zero, suc, ◌<◌, List, [], ◌∷◌, ◌++◌, length, ap, arith, slice_get, Some}

module _ {X : Type 0} where
  -- what each element of a list is, where one more is pushed
  pub slice_get-push : (xs : List X) (x : X) (f : ℕ → X) → ((i : ℕ) → i < length xs → slice_get xs i ≡ Some (f i)) → x ≡ f (length xs)
      → (i : ℕ) → i < length (xs ++ x ∷ []) → slice_get (xs ++ x ∷ []) i ≡ Some (f i)
  slice_get-push [] x f all last zero low = ap Some last
  slice_get-push [] x f all last (suc i) low = absurd (omega (arith, low))
  slice_get-push (y ∷ ys) x f all last zero low = all zero (omega arith)
  slice_get-push (y ∷ ys) x f all last (suc i) low =
      slice_get-push ys x (λ k. f (suc k)) (λ k less. all (suc k) (omega (arith, less))) last i (omega (arith, low))
