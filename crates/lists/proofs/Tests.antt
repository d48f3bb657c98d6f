-- Elements of a list that pass a test, and those that do not.
use Rattle.std.proofs.Common.{◌≡◌, ℕ, suc, ◌+◌, ◌<◌, Bool, true, false, ◌||◌, cond, eqb, List, [], ◌∷◌, ◌++◌, length, map, filter, find, get_or, None, Some, refl, sym, subst, ap, ap₂, ◌∙◌, arith}
use Rattle.std.specs.List.{All, enumerate_from, list_any}
use Rattle.std.specs.Option.{option_map}
use Rattle.std.proofs.lemmas.Bool.{eqb-true, or_parts}
use Rattle.std.proofs.lemmas.List.Elements.{All-cons, All-head, All-tail}
use Rattle.std.proofs.Math.Bool.{or-true}

-- what `find` found, and where
pub record IsFound {X : Type 0} (p : X → Bool) (xs : List X) (x : X) : Type 0 where
  pub place : ℕ
  pub within : place < length xs
  pub at : (d : X) → get_or xs place d ≡ x
  pub passes : p x ≡ true

module _ {X : Type 0} (p : X → Bool) where
  -- no element passes
  pub All-from_none : (xs : List X) → list_any p xs ≡ false → All (λ x. p x ≡ false) xs
  All-from_none [] none = λ k d within. absurd (omega arith)
  All-from_none (x ∷ xs) none = let both = or_parts (p x) (list_any p xs) none in All-cons (λ x. p x ≡ false) x xs both.0 (All-from_none xs both.1)

  -- nothing was found
  pub All-from_find : (xs : List X) → find p xs ≡ None → All (λ x. p x ≡ false) xs
  All-from_find [] none = λ k d within. absurd (omega arith)
  All-from_find (x ∷ xs) none = at (p x) refl none (λ rest. All-from_find xs rest)
    where
      at : (b : Bool) → p x ≡ b → cond b (Some x) (find p xs) ≡ None → (find p xs ≡ None → All (λ x. p x ≡ false) xs) → All (λ x. p x ≡ false) (x ∷ xs)
      at true is e rest = absurd (let f : Some x ≡ None = e in cc)
      at false is e rest = All-cons (λ x. p x ≡ false) x xs is (rest e)

  -- a filter kept none
  pub All-from_empty : (xs : List X) → eqb (length (filter p xs)) 0 ≡ true → All (λ x. p x ≡ false) xs
  All-from_empty [] none = λ k d within. absurd (omega arith)
  All-from_empty (x ∷ xs) none = at (p x) refl none (λ rest. All-from_empty xs rest)
    where
      at : (b : Bool) → p x ≡ b → eqb (length (cond b (x ∷ filter p xs) (filter p xs))) 0 ≡ true → (eqb (length (filter p xs)) 0 ≡ true → All (λ x. p x ≡ false) xs) → All (λ x. p x ≡ false) (x ∷ xs)
      at true is e rest = absurd (let f : suc (length (filter p xs)) ≡ 0 = eqb-true (suc (length (filter p xs))) 0 e in omega arith)
      at false is e rest = All-cons (λ x. p x ≡ false) x xs is (rest e)

  -- what was found, with its place
  pub find-found : (xs : List X) (x : X) → find p xs ≡ Some x → IsFound p xs x
  find-found [] x e = absurd (let none : None ≡ Some x = e in cc)
  find-found (y ∷ ys) x found = at (p y) refl found (λ rest. find-found ys x rest)
    where
      at : (b : Bool) → p y ≡ b → cond b (Some y) (find p ys) ≡ Some x → (find p ys ≡ Some x → IsFound p ys x) → IsFound p (y ∷ ys) x
      at true is e more = (let same : y ≡ x = cc in record { place = 0; within = omega arith; at = λ d. same; passes = ap p (sym same) ∙ is })
      at false is e more = (let f = more e in record { place = suc f.place; within = omega (arith, f.within); at = f.at; passes = f.passes })

  -- where one passes, one is found
  pub find-some : (xs : List X) → list_any p xs ≡ true → (x : X) × (find p xs ≡ Some x)
  find-some [] e = absurd (let f : false ≡ true = e in cc)
  find-some (x ∷ xs) e = at (p x) e (λ f. find-some xs f)
    where
      at : (b : Bool) → (b || list_any p xs) ≡ true → (list_any p xs ≡ true → (y : X) × (find p xs ≡ Some y)) → (y : X) × (cond b (Some x) (find p xs) ≡ Some y)
      at true e rest = (x, refl)
      at false e rest = rest e

  -- what was found is found in a longer list
  pub find-push : (xs : List X) (y x : X) → find p xs ≡ Some x → find p (xs ++ y ∷ []) ≡ Some x
  find-push [] y x e = absurd (let none : None ≡ Some x = e in cc)
  find-push (z ∷ zs) y x found = at (p z) found (λ rest. find-push zs y x rest)
    where
      at : (b : Bool) → cond b (Some z) (find p zs) ≡ Some x → (find p zs ≡ Some x → find p (zs ++ y ∷ []) ≡ Some x) → cond b (Some z) (find p (zs ++ y ∷ [])) ≡ Some x
      at true e rest = e
      at false e rest = rest e

  -- one that passes is kept by a filter that keeps each that passes
  pub list_any-kept : (q : X → Bool) (xs : List X) → All (λ x. p x ≡ true → q x ≡ true) xs → list_any p xs ≡ true → list_any p (filter q xs) ≡ true
  list_any-kept q [] kept some = some
  list_any-kept q (x ∷ xs) kept some = at (p x) (q x) refl refl (All-head (λ x. p x ≡ true → q x ≡ true) x xs kept) some (λ e. list_any-kept q xs (All-tail (λ x. p x ≡ true → q x ≡ true) x xs kept) e)
    where
      at : (px qx : Bool) → p x ≡ px → q x ≡ qx → (p x ≡ true → q x ≡ true) → (px || list_any p xs) ≡ true → (list_any p xs ≡ true → list_any p (filter q xs) ≡ true) → list_any p (cond qx (x ∷ filter q xs) (filter q xs)) ≡ true
      at true true is isq k e rest = ap (λ (b : Bool). b || list_any p (filter q xs)) is
      at true false is isq k e rest = absurd (let t : true ≡ false = sym (k is) ∙ isq in cc)
      at false true is isq k e rest = ap (λ (b : Bool). p x || b) (rest e) ∙ or-true (p x)
      at false false is isq k e rest = rest e

  -- one that passes still passes where each that passes does so after a change
  pub list_any-map : (f : X → X) (xs : List X) → All (λ x. p x ≡ true → p (f x) ≡ true) xs → list_any p xs ≡ true → list_any p (map f xs) ≡ true
  list_any-map f [] kept some = some
  list_any-map f (x ∷ xs) kept some = at (p x) refl (All-head (λ x. p x ≡ true → p (f x) ≡ true) x xs kept) some (λ e. list_any-map f xs (All-tail (λ x. p x ≡ true → p (f x) ≡ true) x xs kept) e)
    where
      at : (px : Bool) → p x ≡ px → (p x ≡ true → p (f x) ≡ true) → (px || list_any p xs) ≡ true → (list_any p xs ≡ true → list_any p (map f xs) ≡ true) → (p (f x) || list_any p (map f xs)) ≡ true
      at true is k e rest = ap (λ (b : Bool). b || list_any p (map f xs)) (k is)
      at false is k e rest = ap (λ (b : Bool). p (f x) || b) (rest e) ∙ or-true (p (f x))

  -- one that passes is in a longer list
  pub list_any-push : (xs : List X) (y : X) → list_any p xs ≡ true → list_any p (xs ++ y ∷ []) ≡ true
  list_any-push [] y e = absurd (let f : false ≡ true = e in cc)
  list_any-push (x ∷ xs) y e = at (p x) e (λ f. list_any-push xs y f)
    where
      at : (b : Bool) → (b || list_any p xs) ≡ true → (list_any p xs ≡ true → list_any p (xs ++ y ∷ []) ≡ true) → (b || list_any p (xs ++ y ∷ [])) ≡ true
      at true e rest = refl
      at false e rest = rest e

-- what holds of each that a filter keeps
pub All-kept : {X : Type 0} (P : X → Type 0) (q : X → Bool) (xs : List X) → ((k : ℕ) (d : X) → k < length xs → q (get_or xs k d) ≡ true → P (get_or xs k d)) → All P (filter q xs)
All-kept P q [] each = λ k d within. absurd (omega arith)
All-kept P q (x ∷ xs) each = at (q x) refl (All-kept P q xs (λ k d within is. each (suc k) d (omega arith) is))
  where
    at : (b : Bool) → q x ≡ b → All P (filter q xs) → All P (cond b (x ∷ filter q xs) (filter q xs))
    at true is rest = All-cons P x (filter q xs) (each 0 x (omega arith) is) rest
    at false is rest = rest

-- where none of those that were filtered and mapped passes, none that the filter keeps does
pub All-from_mapped : {X Y : Type 0} (q : Y → Bool) (f : X → Y) (p : X → Bool) (xs : List X) → list_any q (map f (filter p xs)) ≡ false → All (λ x. p x ≡ true → q (f x) ≡ false) xs
All-from_mapped q f p [] none = λ k d within. absurd (omega arith)
All-from_mapped q f p (x ∷ xs) none = at (p x) refl none (λ e. All-from_mapped q f p xs e)
  where
    at : (b : Bool) → p x ≡ b → list_any q (map f (cond b (x ∷ filter p xs) (filter p xs))) ≡ false → (list_any q (map f (filter p xs)) ≡ false → All (λ x. p x ≡ true → q (f x) ≡ false) xs) → All (λ x. p x ≡ true → q (f x) ≡ false) (x ∷ xs)
    at true is e rest = let both = or_parts (q (f x)) (list_any q (map f (filter p xs))) e in All-cons (λ x. p x ≡ true → q (f x) ≡ false) x xs (λ _. both.0) (rest both.1)
    at false is e rest = All-cons (λ x. p x ≡ true → q (f x) ≡ false) x xs (λ t. absurd (let f : true ≡ false = sym t ∙ is in cc)) (rest e)

-- what holds of each holds of what was found
pub IsFound-all : {X : Type 0} (P : X → Type 0) (p : X → Bool) (xs : List X) (x : X) → IsFound p xs x → All P xs → P x
IsFound-all P p xs x f each = subst P (f.at x) (each f.place x f.within)

-- what is found in a mapped list, where the map keeps the test
pub find-map : {X : Type 0} (p : X → Bool) (f : X → X) → ((x : X) → p (f x) ≡ p x) → (xs : List X) → find p (map f xs) ≡ option_map f (find p xs)
find-map p f same [] = refl
find-map p f same (x ∷ xs) = rw (same x) (at (p x) (find-map p f same xs))
  where
    at : (b : Bool) → find p (map f xs) ≡ option_map f (find p xs) → cond b (Some (f x)) (find p (map f xs)) ≡ option_map f (cond b (Some x) (find p xs))
    at true rest = refl
    at false rest = rest

-- what holds of each holds of each with its number
pub All-enumerate_from : {X : Type 0} (P : X → Type 0) (n : ℕ) (xs : List X) → All P xs → All (λ (e : ℕ × X). P e.1) (enumerate_from n xs)
All-enumerate_from P n [] all = λ k d within. absurd (omega arith)
All-enumerate_from {X = X} P n (x ∷ xs) all = All-cons (λ (e : ℕ × X). P e.1) (n, x) (enumerate_from (n + 1) xs) (All-head P x xs all) (All-enumerate_from P (n + 1) xs (All-tail P x xs all))

-- what holds of the only one holds of each
pub All-one : {X : Type 0} (P : X → Type 0) (x : X) → P x → All P (x ∷ [])
All-one P x p = All-cons P x [] p (λ k d within. absurd (omega arith))

-- two tests that agree everywhere
pub list_any-same : {X : Type 0} (p q : X → Bool) (xs : List X) → ((x : X) → p x ≡ q x) → list_any p xs ≡ list_any q xs
list_any-same p q [] same = refl
list_any-same p q (x ∷ xs) same = ap₂ (λ (a b : Bool). a || b) (same x) (list_any-same p q xs same)
