-- Pairs of elements of a list, each with a later one.
use Rattle.std.proofs.Common.{◌≡◌, ◌≢◌, ℕ, suc, ◌-◌, ◌<◌, ◌≤◌, Bool, true, false, eqb, List, [], ◌∷◌, ◌++◌, length, map, get_or, set, inl, inr, refl, subst, ap, ◌∙◌, arith, length-set}
use Rattle.std.specs.List.{All, AllPairs, flat_map, list_any}
use Rattle.std.proofs.lemmas.Bool.{cases_lt, eqb-true, eqb-false, ne_eqb}
use Rattle.std.proofs.lemmas.List.{get_or-append_right, get_or_append_left, get_or_default, get_or-set_same, get_or-set_other, length-append}
use Rattle.std.proofs.lemmas.List.Elements.{All-append, All-head, All-map, All-tail}
use Rattle.std.proofs.lemmas.List.Kept.{AllPairs-cons}
use Rattle.std.proofs.lemmas.List.Folds.{Any-from_list_any}
use Rattle.std.proofs.lemmas.Map.Keys.{IsDistinct-from_apart}
use Rattle.std.proofs.lemmas.Map.Steps.{length-le_from_distinct_below}

-- the pairs of the tail
pub AllPairs-tail : {X : Type 0} (R : X → X → Type 0) (x : X) (xs : List X) → AllPairs R (x ∷ xs) → AllPairs R xs
AllPairs-tail R x xs pairs = λ i j d below within. pairs (suc i) (suc j) d (omega arith) (omega arith)

-- the pairs of the head
pub AllPairs-head : {X : Type 0} (R : X → X → Type 0) (x : X) (xs : List X) → AllPairs R (x ∷ xs) → All (R x) xs
AllPairs-head R x xs pairs = λ k d within. pairs 0 (suc k) d (omega arith) (omega arith)

-- a list of one has no pairs
pub AllPairs-one : {X : Type 0} (R : X → X → Type 0) (x : X) → AllPairs R (x ∷ [])
AllPairs-one R x = λ i j d below within. absurd (omega arith)

-- the pairs of a mapped list
pub AllPairs-map : {X Y : Type 0} (R : Y → Y → Type 0) (f : X → Y) (xs : List X) → AllPairs (λ a b. R (f a) (f b)) xs → AllPairs R (map f xs)
AllPairs-map R f [] pairs = λ i j d below within. absurd (omega arith)
AllPairs-map R f (x ∷ xs) pairs =
    AllPairs-cons R (f x) (map f xs) (All-map (R (f x)) f xs (AllPairs-head (λ a b. R (f a) (f b)) x xs pairs)) (AllPairs-map R f xs (AllPairs-tail (λ a b. R (f a) (f b)) x xs pairs))

-- the pairs of a list with another element at a place, which is good with each other
pub AllPairs-set : {X : Type 0} (R : X → X → Type 0) → ((x y : X) → R x y → R y x) → (xs : List X) (i : ℕ) (y : X) → AllPairs R xs → ((k : ℕ) (d : X) → k < length xs → k ≢ i → R y (get_or xs k d)) → AllPairs R (set xs i y)
AllPairs-set {X = X} R turned xs i y pairs others = λ a b d below within. let less : b < length xs = omega (arith, within, length-set xs i y) in at a b d below less (eqb a i) (eqb b i) refl refl
  where
    same : (a : ℕ) (d : X) → a < length xs → eqb a i ≡ true → get_or (set xs i y) a d ≡ y
    same a d less e = let is : a ≡ i = eqb-true a i e in ap (λ (n : ℕ). get_or (set xs i y) n d) is ∙ get_or-set_same xs i y d (omega arith)

    other : (a : ℕ) (d : X) → eqb a i ≡ false → get_or (set xs i y) a d ≡ get_or xs a d
    other a d e = get_or-set_other xs i a y d (eqb-false a i e)

    at : (a b : ℕ) (d : X) → a < b → b < length xs → (p q : Bool) → eqb a i ≡ p → eqb b i ≡ q → R (get_or (set xs i y) a d) (get_or (set xs i y) b d)
    at a b d below less true true ea eb = absurd (let one = eqb-true a i ea in let two = eqb-true b i eb in omega arith)
    at a b d below less true false ea eb = rw (same a d (omega arith) ea, other b d eb) (others b d less (eqb-false b i eb))
    at a b d below less false true ea eb = rw (other a d ea, same b d less eb) (turned y (get_or xs a d) (others a d (omega arith) (eqb-false a i ea)))
    at a b d below less false false ea eb = rw (other a d ea, other b d eb) (pairs a b d below less)

-- each of one list is good with each of another
abbrev pub AllAcross : {X : Type 0} → (X → X → Type 0) → List X → List X → Type 0
AllAcross {X = X} R xs ys = (i j : ℕ) (d : X) → i < length xs → j < length ys → R (get_or xs i d) (get_or ys j d)

-- the pairs of two lists, one after the other
pub AllPairs-append : {X : Type 0} (R : X → X → Type 0) (xs ys : List X) → AllPairs R xs → AllPairs R ys → AllAcross R xs ys → AllPairs R (xs ++ ys)
AllPairs-append R xs ys front back across i j d below within = elim (cases_lt j (length xs)) [
  | inl lt ↦ rw (get_or_append_left xs ys d i (omega arith), get_or_append_left xs ys d j lt) (front i j d below lt)
  | inr le ↦ elim (cases_lt i (length xs)) [
    | inl lt ↦ rw (get_or_append_left xs ys d i lt, get_or-append_right xs ys (length xs) j d refl le) (across i (j - length xs) d lt (omega (arith, length-append xs ys)))
    | inr le' ↦ rw (get_or-append_right xs ys (length xs) i d refl le', get_or-append_right xs ys (length xs) j d refl le) (back (i - length xs) (j - length xs) d (omega arith) (omega (arith, length-append xs ys)))
  ]
]

-- what holds of each part holds of the whole
pub All-flat_map : {X Y : Type 0} (P : Y → Type 0) (f : X → List Y) (xs : List X) → All (λ x. All P (f x)) xs → All P (flat_map f xs)
All-flat_map P f [] all = λ k d within. absurd (omega arith)
All-flat_map P f (x ∷ xs) all = All-append P (f x) (flat_map f xs) (All-head (λ x. All P (f x)) x xs all) (All-flat_map P f xs (All-tail (λ x. All P (f x)) x xs all))

-- the pairs within each part, and across two parts
pub AllPairs-flat_map : {X Y : Type 0} (R : Y → Y → Type 0) (f : X → List Y) (xs : List X) → All (λ x. AllPairs R (f x)) xs → AllPairs (λ a b. AllAcross R (f a) (f b)) xs → AllPairs R (flat_map f xs)
AllPairs-flat_map R f [] each across = λ i j d below within. absurd (omega arith)
AllPairs-flat_map R f (x ∷ xs) each across =
    let first = AllPairs-head (λ a b. AllAcross R (f a) (f b)) x xs across in
    AllPairs-append R (f x) (flat_map f xs) (All-head (λ x. AllPairs R (f x)) x xs each)
    (AllPairs-flat_map R f xs (All-tail (λ x. AllPairs R (f x)) x xs each) (AllPairs-tail (λ a b. AllAcross R (f a) (f b)) x xs across))
    (λ i j d below within. All-flat_map (R (get_or (f x) i d)) f xs (λ k c less l e small. subst (R (get_or (f x) i d)) (get_or_default (f (get_or xs k c)) l d e small) (first k c less i l d below small)) j d within)

-- numbers that differ and are below one are no more than that
pub length-distinct : (n : ℕ) (ids : List ℕ) → AllPairs (λ (a b : ℕ). a ≢ b) ids → All (λ id. id < n) ids → length ids ≤ n
length-distinct n ids differ below = length-le_from_distinct_below ids n (IsDistinct-from_apart eqb ids (λ i j d lt within. ne_eqb (get_or ids i d) (get_or ids j d) (differ i j d lt within))) each
  where
    each : (q : ℕ) → list_any (eqb q) ids ≡ true → q < n
    each q there = (let some = Any-from_list_any (eqb q) ids there in
        let is : q ≡ some.1 = eqb-true q some.1 some.4 in
        let least = below some.0 q some.2 in
        omega (arith, is, least, some.3))
