-- Tests of the numbers below a limit: the first that passes, whether one does, and a list that was filled in front.
use Rattle.std.proofs.Common.{◌≡◌, ℕ, ◌-◌, ◌<◌, ◌≤◌, Bool, true, false, List, ◌++◌, length, map, find, get_or, replicate, Some, None, inl, inr, refl, sym, ap, ◌∙◌, arith, zero-add}
use Rattle.std.specs.List.{range_with_len, list_any}
use Rattle.std.proofs.lemmas.Bool.{cases_lt}
use Rattle.std.proofs.lemmas.List.{ext_get_or, get_or-append_right, get_or-replicate, get_or_append_left, length-append, length-replicate}
use Rattle.std.proofs.lemmas.List.FromFn.{get_or-map-range_with_len, get_or-range_with_len, length-map-range_with_len, length-range_with_len}
use Rattle.std.proofs.lemmas.List.Recursion.{found_at, found_nowhere}
use Rattle.std.proofs.lemmas.List.Folds.{list_any_at, list_any_none}

-- the first number that passes is this one where none below it does
pub find-least : (p : ℕ → Bool) (n id : ℕ) → id < n → ((k : ℕ) → k < id → p k ≡ false) → p id ≡ true → find p (range_with_len 0 n) ≡ Some id
find-least p n id below lower here =
    found_at (find p) p Some None refl (λ x xs. refl) (range_with_len 0 n) id 0 (omega (arith, length-range_with_len 0 n))
    (λ k lt. ap p (get_or-range_with_len 0 n k 0 (omega arith) ∙ zero-add k) ∙ lower k lt)
    (ap p (get_or-range_with_len 0 n id 0 below ∙ zero-add id) ∙ here)
    ∙ ap Some (get_or-range_with_len 0 n id 0 below ∙ zero-add id)

-- and there is none where none passes
pub find-none : (p : ℕ → Bool) (n : ℕ) → ((k : ℕ) → k < n → p k ≡ false) → find p (range_with_len 0 n) ≡ None
find-none p n none =
    found_nowhere (find p) p Some None refl (λ x xs. refl) (range_with_len 0 n) 0
    (λ k lt. ap p (get_or-range_with_len 0 n k 0 (omega (arith, length-range_with_len 0 n)) ∙ zero-add k) ∙ none k (omega (arith, length-range_with_len 0 n)))

-- a list of eight that was filled in front
pub append-filled : (f : ℕ → ℕ) (xs : List ℕ) (n : ℕ) → n ≤ 8 → length xs ≡ 8 → ((k : ℕ) → k < n → get_or xs k 0 ≡ f k) → ((k : ℕ) → n ≤ k → get_or xs k 0 ≡ 0) → xs ≡ map f (range_with_len 0 n) ++ replicate (8 - n) 0
append-filled f xs n most count front back = ext_get_or 0 xs (map f (range_with_len 0 n) ++ replicate (8 - n) 0) (omega (arith, count, whole)) each
  where
    whole : length (map f (range_with_len 0 n) ++ replicate (8 - n) 0) ≡ 8
    whole = omega (arith, length-append (map f (range_with_len 0 n)) (replicate (8 - n) 0), length-map-range_with_len f 0 n, length-replicate {A = ℕ} (8 - n) 0)

    each : (k : ℕ) → k < length xs → get_or xs k 0 ≡ get_or (map f (range_with_len 0 n) ++ replicate (8 - n) 0) k 0
    each k within = elim (cases_lt k n) [
      | inl lt ↦ front k lt ∙ sym (get_or_append_left (map f (range_with_len 0 n)) (replicate (8 - n) 0) 0 k (omega (arith, length-map-range_with_len f 0 n)) ∙ get_or-map-range_with_len f 0 n k k 0 lt (zero-add k))
      | inr le ↦ back k le ∙ sym (get_or-append_right (map f (range_with_len 0 n)) (replicate (8 - n) 0) n k 0 (length-map-range_with_len f 0 n) le ∙ get_or-replicate (8 - n) (k - n) 0 0 (omega arith))
    ]

-- ---- whether one passes

-- some number of a range passes where this one does
pub list_any-at : (p : ℕ → Bool) (n id : ℕ) → id < n → p id ≡ true → list_any p (range_with_len 0 n) ≡ true
list_any-at p n id below here =
    list_any_at p (range_with_len 0 n) id 0 (omega (arith, length-range_with_len 0 n)) (ap p (get_or-range_with_len 0 n id 0 below ∙ zero-add id) ∙ here)

-- none does where no one does
pub list_any-none : (p : ℕ → Bool) (n : ℕ) → ((k : ℕ) → k < n → p k ≡ false) → list_any p (range_with_len 0 n) ≡ false
list_any-none p n none = list_any_none p (range_with_len 0 n) (λ k d within.
    let below : k < n = omega (arith, within, length-range_with_len 0 n) in
    ap p (get_or-range_with_len 0 n k d below ∙ zero-add k) ∙ none k below)
