-- Lists that are cut at the first element, or at each, that passes a test.
use Rattle.std.proofs.Common.{◌≡◌, ℕ, suc, ◌+◌, ◌-◌, ◌<◌, ◌≤◌, Bool, true, false, cond, eqb, not, ◌||◌, List, [], ◌∷◌, length, get_or, Some, None, refl, arith, length-drop, inl, inr}
use Rattle.std.specs.List.{list_any, position, position_or_len, before_first, after_first, slice_split, onto_first}
use Rattle.std.proofs.lemmas.Bool.{lt-ltb, le-ltb, cases_lt}
use Rattle.std.proofs.lemmas.List.{take_all}
use Rattle.std.proofs.lemmas.List.Splits.{slice_split_first}
use Rattle.std.specs.Str.Lines.{lines_of_parts, strip_carriage_return}
use Rattle.std.proofs.lemmas.List.Folds.{list_any_at}

-- some element passes where the position of the first that does is below the length
pub list_any-position_lt : {X : Type 0} (p : X → Bool) (xs : List X) → position_or_len p xs < length xs → list_any p xs ≡ true
list_any-position_lt p [] h = absurd (omega arith)
list_any-position_lt p (x ∷ xs) h = step (p x) (list_any p xs) (position_or_len p xs) (length xs) (λ k. list_any-position_lt p xs k) h
  where
    step : (b r : Bool) (n m : ℕ) → (n < m → r ≡ true) → cond (not b) (1 + n) 0 < suc m → (b || r) ≡ true
    step true r n m here h = refl
    step false r n m here h = here (omega arith)

-- and none where it is not
pub list_any-position_ge : {X : Type 0} (p : X → Bool) (xs : List X) → length xs ≤ position_or_len p xs → list_any p xs ≡ false
list_any-position_ge p [] h = refl
list_any-position_ge p (x ∷ xs) h = step (p x) (list_any p xs) (position_or_len p xs) (length xs) (λ k. list_any-position_ge p xs k) h
  where
    step : (b r : Bool) (n m : ℕ) → (m ≤ n → r ≡ false) → suc m ≤ cond (not b) (1 + n) 0 → (b || r) ≡ false
    step true r n m here h = absurd (omega arith)
    step false r n m here h = here (omega arith)

-- a position that is found is that of the first element that passes
pub position-some : {X : Type 0} (p : X → Bool) (xs : List X) (i : ℕ) → position p xs ≡ Some i → (i ≡ position_or_len p xs) × (position_or_len p xs < length xs) × (list_any p xs ≡ true)
position-some p xs i e =
    elim (cases_lt (position_or_len p xs) (length xs)) [
      | inl lt ↦ (let at : position p xs ≡ Some (position_or_len p xs) = rw (lt-ltb (position_or_len p xs) (length xs) lt) refl in
          (cc, lt, list_any-position_lt p xs lt))
      | inr le ↦ (let at : position p xs ≡ None = rw (le-ltb (position_or_len p xs) (length xs) le) refl in absurd cc)
    ]

-- where no position is found, no element passes, and the list stands before the first that does
pub position-none : {X : Type 0} (p : X → Bool) (xs : List X) → position p xs ≡ None → (list_any p xs ≡ false) × (before_first p xs ≡ xs)
position-none p xs e =
    elim (cases_lt (position_or_len p xs) (length xs)) [
      | inl lt ↦ (let at : position p xs ≡ Some (position_or_len p xs) = rw (lt-ltb (position_or_len p xs) (length xs) lt) refl in absurd cc)
      | inr le ↦ (list_any-position_ge p xs le, take_all (position_or_len p xs) xs le)
    ]

-- a list with no separator is one piece
pub slice_split-none : {X : Type 0} (p : X → Bool) (xs : List X) → list_any p xs ≡ false → slice_split p xs ≡ xs ∷ []
slice_split-none p [] h = refl
slice_split-none p (x ∷ xs) h = step (p x) h (slice_split-none p xs)
  where
    step : (b : Bool) → (b || list_any p xs) ≡ false → (list_any p xs ≡ false → slice_split p xs ≡ xs ∷ []) → cond b ([] ∷ slice_split p xs) (onto_first x (slice_split p xs)) ≡ (x ∷ xs) ∷ []
    step true h rest = absurd cc
    step false h rest = rw (rest h) refl

-- another list is its first piece and the pieces after its first separator
pub slice_split-some : (p : ℕ → Bool) (xs : List ℕ) → list_any p xs ≡ true → slice_split p xs ≡ before_first p xs ∷ slice_split p (after_first p xs)
slice_split-some p xs h =
    elim (cases_lt (position_or_len p xs) (length xs)) [
      | inl lt ↦ slice_split_first p xs 0 lt
      | inr le ↦ (let no = list_any-position_ge p xs le in absurd cc)
    ]

-- what stands after the first separator is shorter
pub length-after_first : {X : Type 0} (p : X → Bool) (xs : List X) → list_any p xs ≡ true → length (after_first p xs) < length xs
length-after_first p xs h =
    elim (cases_lt (position_or_len p xs) (length xs)) [
      | inl lt ↦ omega (arith, length-drop (position_or_len p xs + 1) xs)
      | inr le ↦ (let no = list_any-position_ge p xs le in absurd cc)
    ]

-- with no separator the whole list stands before the first
pub before_first-none : {X : Type 0} (p : X → Bool) (xs : List X) → list_any p xs ≡ false → before_first p xs ≡ xs
before_first-none p xs h =
    elim (cases_lt (position_or_len p xs) (length xs)) [
      | inl lt ↦ (let yes = list_any-position_lt p xs lt in absurd cc)
      | inr le ↦ take_all (position_or_len p xs) xs le
    ]

-- what `position` tells
pub ruleset positions = (position-some, position-none)

-- ---- the lines of a text

-- one part in front
pub lines_of_parts-cons : (x : List ℕ) (parts : List (List ℕ)) → 0 < length parts → lines_of_parts (x ∷ parts) ≡ strip_carriage_return x ∷ lines_of_parts parts
lines_of_parts-cons x [] h = absurd (omega arith)
lines_of_parts-cons x (y ∷ more) h = refl

-- a line without a carriage return
pub strip_carriage_return-none : (x : List ℕ) → 0 < length x → list_any (λ b. eqb b 13) x ≡ false → strip_carriage_return x ≡ x
strip_carriage_return-none x some none = at (eqb (get_or x (length x - 1) 0) 13) refl
  where
    at : (b : Bool) → eqb (get_or x (length x - 1) 0) 13 ≡ b → strip_carriage_return x ≡ x
    at true e = let any = list_any_at (λ b. eqb b 13) x (length x - 1) 0 (omega arith) e in absurd cc
    at false e = rw e refl
