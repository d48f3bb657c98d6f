-- Lists of slots: the lines in the first of them, and what a drop and a line in front change.
use Rattle.std.proofs.Common.{◌≡◌, ℕ, zero, suc, ◌+◌, ◌-◌, ◌≤◌, Bool, true, false, ◌==◌, ◌&&◌, nat_lt, List, [], ◌∷◌, length, take, drop, Option, Some, None, arith, refl, sym, ◌∙◌, ap, inl, inr}
use Rattle.std.specs.List.{list_any, position, position_or_len}
use Rattle.std.proofs.lemmas.Bool.{cases_Bool, cases_lt, lt-ltb, le-ltb}
use Rattle.std.proofs.lemmas.List.{take_all}
use Rattle.lists.proofs.Cuts.{list_any-position_ge, list_any-position_lt}
use Rattle.private_lru.specs.Private.{among}
use Rattle.way_curve.specs.Distances.{is_below}
use Rattle.way_curve.specs.Shifts.{without_first}
use Rattle.way_curve.specs.Slots.{dropped, has_line, lines_in, pushed}

-- no more lines than slots
length-lines_in : (slots : List (Option ℕ)) → length (lines_in slots) ≤ length slots
length-lines_in [] = omega arith
length-lines_in (None ∷ slots) = let ih : length (lines_in slots) ≤ length slots = length-lines_in slots in omega (arith, ih)
length-lines_in (Some x ∷ slots) = let ih : length (lines_in slots) ≤ length slots = length-lines_in slots in omega (arith, ih)

-- and in the first slots no more than these
length-lines_in_take : (n : ℕ) (slots : List (Option ℕ)) → length (lines_in (take n slots)) ≤ n
length-lines_in_take zero slots = omega arith
length-lines_in_take (suc n) [] = omega arith
length-lines_in_take (suc n) (None ∷ slots) = let ih : length (lines_in (take n slots)) ≤ n = length-lines_in_take n slots in omega (arith, ih)
length-lines_in_take (suc n) (Some x ∷ slots) = let ih : length (lines_in (take n slots)) ≤ n = length-lines_in_take n slots in omega (arith, ih)

-- a drop takes the line out of the first slots, if it is there
pub lines_in-dropped : (x ways : ℕ) (slots : List (Option ℕ)) → lines_in (take ways (dropped x slots)) ≡ without_first x (lines_in (take ways slots))
lines_in-dropped x zero slots = refl
lines_in-dropped x (suc n) [] = refl
lines_in-dropped x (suc n) (None ∷ slots) = lines_in-dropped x n slots
lines_in-dropped x (suc n) (Some y ∷ slots) = elim (cases_Bool (y == x)) [
  | inl k ↦ rw k refl
  | inr k ↦ rw k (ap (λ (l : List ℕ). y ∷ l) (lines_in-dropped x n slots))
]

-- a line in front stands before those of the first slots, of which the last is lost if there is no hole among them
pub lines_in-pushed : (x ways : ℕ) (slots : List (Option ℕ)) → ways ≤ length slots → lines_in (take ways (pushed x slots)) ≡ take ways (x ∷ lines_in (take ways slots))
lines_in-pushed x zero slots le = refl
lines_in-pushed x (suc n) [] le = absurd (omega arith)
lines_in-pushed x (suc n) (None ∷ slots) le = ap (λ (l : List ℕ). x ∷ l) (sym (take_all n (lines_in (take n slots)) (length-lines_in_take n slots)))
lines_in-pushed x (suc n) (Some y ∷ slots) le = ap (λ (l : List ℕ). x ∷ l) (lines_in-pushed y n slots (omega arith))

-- as many slots as before
pub length-dropped : (x : ℕ) (slots : List (Option ℕ)) → length (dropped x slots) ≡ length slots
length-dropped x [] = refl
length-dropped x (slot ∷ slots) = elim (cases_Bool (has_line x slot)) [
  | inl k ↦ rw k refl
  | inr k ↦ rw k (ap (λ (n : ℕ). suc n) (length-dropped x slots))
]

-- and after a line in front
pub length-pushed : (x : ℕ) (slots : List (Option ℕ)) → length (pushed x slots) ≡ length slots
length-pushed x [] = refl
length-pushed x (None ∷ slots) = refl
length-pushed x (Some y ∷ slots) = ap (λ (n : ℕ). suc n) (length-pushed y slots)

-- ---- in which slot a line is

-- a slot among the first has the line where it is among their lines
list_any-has_line : (x : ℕ) (slots : List (Option ℕ)) → list_any (has_line x) slots ≡ among x (lines_in slots)
list_any-has_line x [] = refl
list_any-has_line x (None ∷ slots) = list_any-has_line x slots
list_any-has_line x (Some y ∷ slots) = elim (cases_Bool (y == x)) [
  | inl k ↦ rw k refl
  | inr k ↦ rw k (list_any-has_line x slots)
]

-- the first place that passes is among the first places where some of these passes
list_any-take : {X : Type 0} (p : X → Bool) (most : ℕ) (xs : List X) → list_any p (take most xs) ≡ (list_any p xs && nat_lt (position_or_len p xs) most)
list_any-take p zero xs = sym (and-none (list_any p xs) (position_or_len p xs))
  where
    and-none : (b : Bool) (n : ℕ) → (b && nat_lt n 0) ≡ false
    and-none true n = le-ltb n 0 (omega arith)
    and-none false n = refl
list_any-take p (suc n) [] = refl
list_any-take p (suc n) (x ∷ xs) = elim (cases_Bool (p x)) [
  | inl h ↦ let e : nat_lt 0 (suc n) ≡ true = lt-ltb 0 (suc n) (omega arith) in rw (h, e) refl
  | inr h ↦ rw h (list_any-take p n xs ∙ ap (λ (b : Bool). list_any p xs && b) (sym (nat_lt-suc (position_or_len p xs) n)))
]
  where
    nat_lt-suc : (a b : ℕ) → nat_lt (1 + a) (suc b) ≡ nat_lt a b
    nat_lt-suc a b = elim (cases_lt a b) [
      | inl h ↦ lt-ltb (1 + a) (suc b) (omega arith) ∙ sym (lt-ltb a b h)
      | inr h ↦ le-ltb (1 + a) (suc b) (omega arith) ∙ sym (le-ltb a b h)
    ]

-- the first place that passes is below a number where one of so many places passes
is_below-list_any : {X : Type 0} (p : X → Bool) (most : ℕ) (xs : List X) → is_below most (position p xs) ≡ list_any p (take most xs)
is_below-list_any p most xs =
    let n : ℕ = position_or_len p xs in
    let front = list_any-take p most xs in
    elim (cases_lt n (length xs)) [
      | inl lt ↦
          let there : list_any p xs ≡ true = list_any-position_lt p xs lt in
          let at : position p xs ≡ Some n = rw (lt-ltb n (length xs) lt) refl in
          ap (λ (o : Option ℕ). is_below most o) at ∙ sym (front ∙ ap (λ (b : Bool). b && nat_lt n most) there)
      | inr ge ↦
          let gone : list_any p xs ≡ false = list_any-position_ge p xs ge in
          let at : position p xs ≡ None = rw (le-ltb n (length xs) ge) refl in
          ap (λ (o : Option ℕ). is_below most o) at ∙ sym (front ∙ ap (λ (b : Bool). b && nat_lt n most) gone)
    ]

-- a line is in one of the first slots where it is among their lines
pub is_below-slot : (x most : ℕ) (slots : List (Option ℕ)) → is_below most (position (has_line x) slots) ≡ among x (lines_in (take most slots))
is_below-slot x most slots = is_below-list_any (has_line x) most slots ∙ list_any-has_line x (take most slots)
