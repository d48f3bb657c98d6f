-- Lists that are put together of others: what they contain, and their order.
use Rattle.std.proofs.Common.{◌≡◌, ℕ, zero, suc, ◌<◌, Bool, true, false, cond, List, [], ◌∷◌, ◌++◌, length, map, filter, find, get_or, Some, Contains, sym, subst, ap, ◌∙◌, arith}
use Rattle.std.specs.List.{All, AllPairs, flat_map, range_with_len}
use Rattle.std.proofs.lemmas.List.{get_or-map, length-map}
use Rattle.std.proofs.lemmas.List.Elements.{Contains-append_left, Contains-append_right}
use Rattle.std.proofs.lemmas.List.FromFn.{get_or-range_with_len, length-range_with_len}
use Rattle.lists.proofs.Pairs.{AllPairs-flat_map}
use Rattle.lists.proofs.Tests.{find-found}

-- ---- what they contain

-- an element at a place
Contains-at : {X : Type 0} (xs : List X) (y : X) (k : ℕ) → k < length xs → get_or xs k y ≡ y → Contains xs y
Contains-at xs y k lt is = (k, lt, is)

-- an element of the rest
Contains-tail : {X : Type 0} (x : X) (xs : List X) (y : X) → Contains xs y → Contains (x ∷ xs) y
Contains-tail x xs y h = let lt = h.1 in (suc h.0, omega (arith, lt), h.2)

-- what a list contains is mapped
pub Contains-mapped : {X Y : Type 0} (f : X → Y) (xs : List X) (x : X) → Contains xs x → Contains (map f xs) (f x)
Contains-mapped f xs x h = let lt = h.1 in (h.0, omega (arith, lt, length-map xs f), get_or-map f xs h.0 x (f x) lt ∙ ap f h.2)

-- what passes a test is kept by it
pub Contains-filtered : {X : Type 0} (p : X → Bool) (xs : List X) (y : X) → p y ≡ true → Contains xs y → Contains (filter p xs) y
Contains-filtered p [] y passes h = absurd (let lt = h.1 in omega (arith, lt))
Contains-filtered p (x ∷ xs) y passes h = at h.0 h.1 h.2 (λ more. Contains-filtered p xs y passes more)
  where
    later : (b : Bool) → Contains (filter p xs) y → Contains (cond b (x ∷ filter p xs) (filter p xs)) y
    later true more = Contains-tail x (filter p xs) y more
    later false more = more

    at : (k : ℕ) → k < length (x ∷ xs) → get_or (x ∷ xs) k y ≡ y → (Contains xs y → Contains (filter p xs) y) → Contains (cond (p x) (x ∷ filter p xs) (filter p xs)) y
    at zero lt is rest = (let own : p x ≡ true = ap p is ∙ passes in rw own (Contains-at (x ∷ filter p xs) y 0 (omega arith) is))
    at (suc k) lt is rest = later (p x) (rest (Contains-at xs y k (omega (arith, lt)) is))

-- what one of the lists contains
pub Contains-flat_mapped : {X Y : Type 0} (f : X → List Y) (xs : List X) (x : X) (y : Y) → Contains xs x → Contains (f x) y → Contains (flat_map f xs) y
Contains-flat_mapped f [] x y h own = absurd (let lt = h.1 in omega (arith, lt))
Contains-flat_mapped {Y = Y} f (z ∷ zs) x y h own = at h.0 h.1 h.2 (λ more. Contains-flat_mapped f zs x y more own)
  where
    at : (k : ℕ) → k < length (z ∷ zs) → get_or (z ∷ zs) k x ≡ x → (Contains zs x → Contains (flat_map f zs) y) → Contains (f z ++ flat_map f zs) y
    at zero lt is rest = Contains-append_left (f z) (flat_map f zs) y (subst (λ w. Contains (f w) y) (sym is) own)
    at (suc k) lt is rest = Contains-append_right (f z) (flat_map f zs) y (rest (Contains-at zs x k (omega (arith, lt)) is))

-- a number below another
pub Contains-range : (n k : ℕ) → k < n → Contains (range_with_len 0 n) k
Contains-range n k lt = (k, omega (arith, lt, length-range_with_len 0 n), get_or-range_with_len 0 n k k lt ∙ omega arith)

-- what was found
pub Contains-found : {X : Type 0} (p : X → Bool) (xs : List X) (x : X) → find p xs ≡ Some x → Contains xs x
Contains-found p xs x found = let f = find-found p xs x found in (f.place, f.within, f.at x)

-- ---- a list for each number below one

-- a number of the range
number : (n k d : ℕ) → k < length (range_with_len 0 n) → get_or (range_with_len 0 n) k d ≡ k
number n k d lt = get_or-range_with_len 0 n k d (omega (arith, lt, length-range_with_len 0 n)) ∙ omega arith

-- what holds of each number holds of the numbers of the range
pub All-numbers : (n : ℕ) (P : ℕ → Type 0) → ((k : ℕ) → k < n → P k) → All P (range_with_len 0 n)
All-numbers n P each k d lt = subst P (sym (number n k d lt)) (each k (omega (arith, lt, length-range_with_len 0 n)))

-- in order, where each list is, and what is in one comes before what is in a later one
pub AllPairs-numbers : {X : Type 0} (f : ℕ → List X) (n : ℕ) (R : X → X → Type 0) (K : ℕ → X → Type 0) → ((k : ℕ) → k < n → All (K k) (f k)) → ((k : ℕ) → k < n → AllPairs R (f k))
    → ((i k : ℕ) (x y : X) → i < k → K i x → K k y → R x y) → AllPairs R (flat_map f (range_with_len 0 n))
AllPairs-numbers f n R K is each across =
    AllPairs-flat_map R f (range_with_len 0 n) (All-numbers n (λ k. AllPairs R (f k)) each)
    (λ i k d lt within a b x small less.
    let first = All-numbers n (λ m. All (K m) (f m)) is i d (omega (arith, lt, within)) a x small in
    let second = All-numbers n (λ m. All (K m) (f m)) is k d within b x less in
    let one = number n i d (omega (arith, lt, within)) in
    let two = number n k d within in
    across (get_or (range_with_len 0 n) i d) (get_or (range_with_len 0 n) k d) (get_or (f (get_or (range_with_len 0 n) i d)) a x) (get_or (f (get_or (range_with_len 0 n) k d)) b x) (omega (arith, lt, one, two)) first second)
