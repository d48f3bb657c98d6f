-- Lists with one element more.
use Rattle.std.proofs.Common.{◌≡◌, ℕ, zero, suc, ◌<◌, List, [], ◌∷◌, ◌++◌, length, None, Some, ◌⊎◌, inl, inr, refl, sym, ap, arith}
use Rattle.std.specs.Prelude.{slice_get}
use Rattle.std.proofs.lemmas.Option.{same_Some}
use Rattle.run_law.specs.Journals.{At}

-- what stands in a list with one more
pub At-push : {X : Type 0} (xs : List X) (x : X) (k : ℕ) (y : X) → At (xs ++ x ∷ []) k y → At xs k y ⊎ ((k ≡ length xs) × (y ≡ x))
At-push [] x zero y e = inr (refl, same_Some y x (sym e))
At-push [] x (suc k) y e = absurd (let none : None ≡ Some y = e in cc)
At-push (z ∷ zs) x zero y e = inl e
At-push (z ∷ zs) x (suc k) y e = elim (At-push zs x k y e) [
  | inl h ↦ inl h
  | inr h ↦ inr (ap suc h.0, h.1)
]

-- what stood there stands there
pub slice_get-push : {X : Type 0} (xs : List X) (x : X) (k : ℕ) → k < length xs → slice_get (xs ++ x ∷ []) k ≡ slice_get xs k
slice_get-push [] x k lt = absurd (omega arith)
slice_get-push (z ∷ zs) x zero lt = refl
slice_get-push (z ∷ zs) x (suc k) lt = slice_get-push zs x k (omega arith)

-- and it stands at the end
pub slice_get-pushed : {X : Type 0} (xs : List X) (x : X) (k : ℕ) → k ≡ length xs → slice_get (xs ++ x ∷ []) k ≡ Some x
slice_get-pushed [] x zero is = refl
slice_get-pushed [] x (suc k) is = absurd (omega (arith, is))
slice_get-pushed (z ∷ zs) x zero is = absurd (omega (arith, is))
slice_get-pushed (z ∷ zs) x (suc k) is = slice_get-pushed zs x k (omega (arith, is))
