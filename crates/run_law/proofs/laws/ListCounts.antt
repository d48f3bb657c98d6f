-- How many elements lists have that tests pass.
use Rattle.std.proofs.Common.{◌≡◌, ℕ, zero, suc, ◌+◌, ◌<◌, ◌≤◌, Bool, true, false, inl, inr, List, [], ◌∷◌, length, map, filter, refl, ap, ◌∙◌, subst, arith}
use Rattle.std.specs.Prelude.{◌==◌, if◌then◌else◌}
use Rattle.std.specs.List.{All, flat_map, range_with_len}
use Rattle.std.proofs.lemmas.Bool.{cases_Bool, eqb-true, ne_eqb}
use Rattle.std.proofs.lemmas.List.{length-append}
use Rattle.std.proofs.lemmas.List.Elements.{All-cons}

-- the same, whichever of two is there
pub same_length : {A : Type 0} (b : Bool) (x : A) (d : ℕ) → length (if b then x ∷ [] else []) ≡ length (if b then d ∷ [] else [])
same_length true x d = refl
same_length false x d = refl

-- all that a filter keeps passes its test
pub All-filtered : {A : Type 0} (p : A → Bool) (xs : List A) → All (λ x. p x ≡ true) (filter p xs)
All-filtered p [] = λ k d within. absurd (omega arith)
All-filtered p (x ∷ xs) = elim (cases_Bool (p x)) [
  | inl here ↦ rw here (All-cons (λ y. p y ≡ true) x (filter p xs) here (All-filtered p xs))
  | inr away ↦ rw away (All-filtered p xs)
]

-- ---- lists

-- one element or none
pub length-if : {A : Type 0} (b : Bool) (x : A) → length (if b then x ∷ [] else []) ≤ 1
length-if true x = omega arith
length-if false x = omega arith

-- an element for each one that passes a test
pub length-flat_map_if : {A B : Type 0} (p : A → Bool) (f : A → B) (xs : List A) → length (flat_map (λ x. if p x then f x ∷ [] else []) xs) ≡ length (filter p xs)
length-flat_map_if p f [] = refl
length-flat_map_if p f (x ∷ xs) = elim (cases_Bool (p x)) [
  | inl here ↦ rw here (ap (λ n. suc n) (length-flat_map_if p f xs))
  | inr away ↦ rw away (length-flat_map_if p f xs)
]

-- the same for elements that are made of others
pub length-flat_map_map : {A B C : Type 0} (p : A → Bool) (g : A → B) (f : B → List C) → ((x : A) → length (f (g x)) ≡ length (if p x then x ∷ [] else [])) → (xs : List A) → length (flat_map f (map g xs)) ≡ length (filter p xs)
length-flat_map_map p g f each [] = refl
length-flat_map_map p g f each (x ∷ xs) =
    let rest = length-flat_map_map p g f each xs in
    let all = length-append (f (g x)) (flat_map f (map g xs)) in
    elim (cases_Bool (p x)) [
      | inl here ↦ (let one : length (f (g x)) ≡ 1 = each x ∙ (rw here refl) in rw here (all ∙ omega (arith, one, rest)))
      | inr away ↦ (let none : length (f (g x)) ≡ 0 = each x ∙ (rw away refl) in rw away (all ∙ omega (arith, none, rest)))
    ]

-- a number below those of a range is none of them
pub range-none : (c : ℕ) (p : ℕ → Bool) (a n : ℕ) → c < a → length (filter (λ d. d == c) (filter p (range_with_len a n))) ≡ 0
range-none c p a zero below = refl
range-none c p a (suc n) below =
    let rest = range-none c p (a + 1) n (omega (arith, below)) in
    elim (cases_Bool (p a)) [
      | inl passes ↦ (let apart : (a == c) ≡ false = ne_eqb a c (λ same. omega (arith, same, below)) in rw (passes, apart) rest)
      | inr fails ↦ rw fails rest
    ]

-- a number is in a range once at most
pub range-once : (c : ℕ) (p : ℕ → Bool) (a n : ℕ) → length (filter (λ d. d == c) (filter p (range_with_len a n))) ≤ 1
range-once c p a zero = omega arith
range-once c p a (suc n) =
    let rest = range-once c p (a + 1) n in
    elim (cases_Bool (p a)) [
      | inr fails ↦ rw fails rest
      | inl passes ↦ elim (cases_Bool (a == c)) [
        | inr apart ↦ rw (passes, apart) rest
        | inl here ↦ (let none = range-none c p (a + 1) n (omega (arith, eqb-true a c here)) in rw (passes, here) (omega (arith, none)))
      ]
    ]

-- a filter that passes all
pub filter-all : (xs : List ℕ) → filter (λ x. true) xs ≡ xs
filter-all [] = refl
filter-all (x ∷ xs) = ap (λ ys. x ∷ ys) (filter-all xs)

-- a number is in a range once at most
pub range-once_of_all : (c a n : ℕ) → length (filter (λ d. d == c) (range_with_len a n)) ≤ 1
range-once_of_all c a n = subst (λ ds. length (filter (λ d. d == c) ds) ≤ 1) (filter-all (range_with_len a n)) (range-once c (λ x. true) a n)
