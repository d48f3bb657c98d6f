-- What follows a command in each domain, one domain more at a time.
use Rattle.std.proofs.Common.{◌≡◌, ℕ, ◌+◌, Bool, true, false, cond, List, [], ◌∷◌, ◌++◌, filter, map, refl, ap, ◌∙◌, zero-add}
use Rattle.std.specs.List.{range_with_len}
use Rattle.std.proofs.lemmas.List.{map-append}
use Rattle.std.proofs.lemmas.List.FromFn.{filter_of_map_range_with_len_more}

-- a map that changes no element
map-identity : (xs : List ℕ) → map (λ (n : ℕ). n) xs ≡ xs
map-identity [] = refl
map-identity (x ∷ xs) = ap (λ (ys : List ℕ). x ∷ ys) (map-identity xs)

-- the numbers below one more that pass a test
pub map-filter_suc : {X : Type 0} (f : ℕ → X) (p : ℕ → Bool) (n : ℕ) → map f (filter p (range_with_len 0 (n + 1))) ≡ map f (filter p (range_with_len 0 n)) ++ cond (p n) (f n ∷ []) []
map-filter_suc {X} f p n =
    let more = filter_of_map_range_with_len_more p (λ (k : ℕ). k) 0 n n (zero-add n) in
    let all : filter p (range_with_len 0 (n + 1)) ≡ filter p (range_with_len 0 n) ++ cond (p n) (n ∷ []) [] = rw (map-identity (range_with_len 0 (n + 1)), map-identity (range_with_len 0 n)) at more in
    ap (map f) all ∙ map-append f (filter p (range_with_len 0 n)) (cond (p n) (n ∷ []) []) ∙ ap (λ (ys : List X). map f (filter p (range_with_len 0 n)) ++ ys) (one (p n))
  where
    one : (b : Bool) → map f (cond b (n ∷ []) []) ≡ cond b (f n ∷ []) []
    one true = refl
    one false = refl
