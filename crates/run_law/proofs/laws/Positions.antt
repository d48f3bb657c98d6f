-- Positions in a list of two parts, and filters of one.
use Rattle.std.proofs.Common.{◌≡◌, ℕ, zero, suc, ◌-◌, ◌<◌, ◌≤◌, Bool, false, ◌⊎◌, inl, inr, List, [], ◌∷◌, ◌++◌, length, map, filter, refl, ap, arith}
use Rattle.std.specs.Prelude.{slice_get, IsSome, Contains}
use Rattle.run_law.specs.Journals.{At}

module _ {A : Type 0} where
  -- what stands in the front part stands in the whole
  pub At-append_front : (xs ys : List A) (k : ℕ) (x : A) → At xs k x → At (xs ++ ys) k x
  At-append_front [] ys k x h = absurd cc
  At-append_front (y ∷ xs) ys zero x h = h
  At-append_front (y ∷ xs) ys (suc k) x h = At-append_front xs ys k x h

  -- what stands in the whole stands in one of the parts
  pub At-append : (xs ys : List A) (k : ℕ) (x : A) → At (xs ++ ys) k x → At xs k x ⊎ ((length xs ≤ k) × At ys (k - length xs) x)
  At-append [] ys k x h = inr (omega arith, let e : k - 0 ≡ k = omega arith in rw e h)
  At-append (y ∷ xs) ys zero x h = inl h
  At-append (y ∷ xs) ys (suc k) x h = elim (At-append xs ys k x h) [
    | inl front ↦ inl front
    | inr back ↦ inr (omega (arith, back.0), let e : suc k - suc (length xs) ≡ k - length xs = omega arith in rw e back.1)
  ]

  -- the only element of a list
  pub At-one : (y : A) (k : ℕ) (x : A) → At (y ∷ []) k x → (k ≡ 0) × (x ≡ y)
  At-one y zero x h = (refl, cc)
  At-one y (suc k) x h = absurd cc

  -- the element after a list
  pub At-last : (xs : List A) (x : A) → At (xs ++ x ∷ []) (length xs) x
  At-last [] x = refl
  At-last (y ∷ xs) x = At-last xs x

  -- something stands at each position below the length
  pub slice_get-within : (xs : List A) (k : ℕ) → k < length xs → IsSome (slice_get xs k)
  slice_get-within [] k h = absurd (omega arith)
  slice_get-within (y ∷ xs) zero h = refl
  slice_get-within (y ∷ xs) (suc k) h = slice_get-within xs k (omega arith)

  -- a filter that passes nothing
  pub filter-none_at : (p : A → Bool) (xs : List A) → ((k : ℕ) (x : A) → At xs k x → p x ≡ false) → filter p xs ≡ []
  filter-none_at p [] none = refl
  filter-none_at p (x ∷ xs) none = rw (none 0 x refl) (filter-none_at p xs (λ k y h. none (suc k) y h))

-- what is mapped is there
pub Contains-map : {A B : Type 0} (f : A → B) (xs : List A) (k : ℕ) (x : A) → At xs k x → Contains (map f xs) (f x)
Contains-map f [] k x h = absurd cc
Contains-map f (y ∷ xs) zero x h = (0, omega arith, let e : y ≡ x = cc in ap f e)
Contains-map f (y ∷ xs) (suc k) x h = let rest : Contains (map f xs) (f x) = Contains-map f xs k x h in (suc rest.0, omega (arith, rest.1), rest.2)
