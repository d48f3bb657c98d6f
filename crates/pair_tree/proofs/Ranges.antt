-- What is found and tested in lists that are made of others.
use Rattle.std.proofs.Common.{◌≡◌, ◌-◌, Bool, true, false, ◌||◌, cond, List, [], ◌∷◌, ◌++◌, map, find, Some, refl, ap}
use Rattle.std.specs.List.{list_any}
use Rattle.std.specs.Option.{option_map, option_or}

module _ {X Y : Type 0} (p : Y → Bool) (f : X → Y) where
  -- what is found in a mapped list
  pub find-mapped : (xs : List X) → find p (map f xs) ≡ option_map f (find (λ x. p (f x)) xs)
  find-mapped [] = refl
  find-mapped (x ∷ xs) = at (p (f x)) (find-mapped xs)
    where
      at : (b : Bool) → find p (map f xs) ≡ option_map f (find (λ x. p (f x)) xs) → cond b (Some (f x)) (find p (map f xs)) ≡ option_map f (cond b (Some x) (find (λ x. p (f x)) xs))
      at true rest = refl
      at false rest = rest

  -- a test of a mapped list
  pub list_any-mapped : (xs : List X) → list_any p (map f xs) ≡ list_any (λ x. p (f x)) xs
  list_any-mapped [] = refl
  list_any-mapped (x ∷ xs) = ap (λ (b : Bool). p (f x) || b) (list_any-mapped xs)

-- what is found in two lists
pub find-append : {X : Type 0} (p : X → Bool) (xs ys : List X) → find p (xs ++ ys) ≡ option_or (find p xs) (find p ys)
find-append p [] ys = refl
find-append p (x ∷ xs) ys = at (p x) (find-append p xs ys)
  where
    at : (b : Bool) → find p (xs ++ ys) ≡ option_or (find p xs) (find p ys) → cond b (Some x) (find p (xs ++ ys)) ≡ option_or (cond b (Some x) (find p xs)) (find p ys)
    at true rest = refl
    at false rest = rest
