-- Parts of different numbers, and the first parts of a run.
use Rattle.std.proofs.Common.{◌≡◌, ℕ, zero, suc, ◌+◌, ◌<◌, ◌≤◌, ◌==◌, inl, inr, false, List, None, [], ◌∷◌, ◌++◌, length, drop, refl, sym, ap, ◌∙◌, subst, arith}
use Rattle.std.proofs.lemmas.Bool.{ne_eqb, true≢false}
use Rattle.std.proofs.lemmas.List.{length-append}
use Rattle.live_run.specs.Openings.{AreNumbered}
use Rattle.machine.specs.Slices.{slice_count}
use Rattle.schedule_law.specs.LiveParts.{first, first_slices, first_threads, live_phase, live_slice, resting_thread}
use Rattle.schedule_law.specs.Parts.{number_of_slice, number_of_thread}
use Rattle.schedule_law.specs.declared.part.Part.{Part}
use Rattle.script_ops.specs.Values.{ScriptValue, threads_of}
use Rattle.shared_parts.proofs.laws.Parts.{has-cases, has-later}
use Rattle.shared_parts.specs.Parts.{AreApart, first_of, has, rest_of}

-- the first of them is apart from the others
pub AreApart-numbered : (xs : List (ℕ × Part)) → AreNumbered xs → AreApart (first_of xs) (rest_of xs)
AreApart-numbered [] numbered k h = refl
AreApart-numbered (x ∷ xs) numbered k h = elim (has-cases k x [] h) [
  | inl same ↦ subst (λ n. has n xs ≡ false) same numbered.0
  | inr more ↦ absurd (true≢false (sym more))
]

pub AreNumbered-drop : (n : ℕ) (xs : List (ℕ × Part)) → AreNumbered xs → AreNumbered (drop n xs)
AreNumbered-drop zero xs numbered = numbered
AreNumbered-drop (suc n) [] numbered = tt
AreNumbered-drop (suc n) (x ∷ xs) numbered = AreNumbered-drop n xs numbered.1

pub rest_of-drop : (n : ℕ) (xs : List (ℕ × Part)) → rest_of (drop n xs) ≡ drop (suc n) xs
rest_of-drop zero [] = refl
rest_of-drop zero (x ∷ xs) = refl
rest_of-drop (suc n) [] = refl
rest_of-drop (suc n) (x ∷ xs) = rest_of-drop n xs

-- ---- the first parts

has-none : (k : ℕ) (x : ℕ × Part) (xs : List (ℕ × Part)) → (x.0 == k) ≡ false → has k xs ≡ false → has k (x ∷ xs) ≡ false
has-none k x xs other none = has-later k x xs other ∙ none

has-threads : (k t n : ℕ) → ((u : ℕ) → t ≤ u → (number_of_thread u == k) ≡ false) → has k (first_threads t n) ≡ false
has-threads k t zero others = refl
has-threads k t (suc n) others = has-none k (resting_thread t 0 false [] None) (first_threads (t + 1) n) (others t (omega arith)) (has-threads k (t + 1) n (λ u from. others u (omega (arith, from))))

has-slices : (k i n : ℕ) (xs : List (ℕ × Part)) → ((j : ℕ) → i ≤ j → (number_of_slice j == k) ≡ false) → has k xs ≡ false → has k (first_slices i n ++ xs) ≡ false
has-slices k i zero xs others none = none
has-slices k i (suc n) xs others none = has-none k (live_slice i []) (first_slices (i + 1) n ++ xs) (others i (omega arith)) (has-slices k (i + 1) n xs (λ j from. others j (omega (arith, from))) none)

pub AreNumbered-threads : (t n : ℕ) → AreNumbered (first_threads t n)
AreNumbered-threads t zero = tt
AreNumbered-threads t (suc n) = (has-threads (number_of_thread t) (t + 1) n (λ u from. ne_eqb (number_of_thread u) (number_of_thread t) (λ same. omega (arith, from, same))), AreNumbered-threads (t + 1) n)

AreNumbered-slices : (i n t m : ℕ) → AreNumbered (first_slices i n ++ first_threads t m)
AreNumbered-slices i zero t m = AreNumbered-threads t m
AreNumbered-slices i (suc n) t m = (
  has-slices (number_of_slice i) (i + 1) n (first_threads t m) (λ j from. ne_eqb (number_of_slice j) (number_of_slice i) (λ same. omega (arith, from, same)))
      (has-threads (number_of_slice i) t m (λ u from. ne_eqb (number_of_thread u) (number_of_slice i) (λ same. omega (arith, same)))),
  AreNumbered-slices (i + 1) n t m,
)

module _ (script : ScriptValue) where
  abbrev pub parts_left : List (ℕ × Part)
  parts_left = first_slices 0 (slice_count script.machine) ++ first_threads 0 (length (threads_of script))

  pub AreNumbered-left : AreNumbered parts_left
  AreNumbered-left = AreNumbered-slices 0 (slice_count script.machine) 0 (length (threads_of script))

  has-left : (k : ℕ) → k < 2 → has k parts_left ≡ false
  has-left k low =
      has-slices k 0 (slice_count script.machine) (first_threads 0 (length (threads_of script))) (λ j from. ne_eqb (number_of_slice j) k (λ same. omega (arith, low, same)))
      (has-threads k 0 (length (threads_of script)) (λ u from. ne_eqb (number_of_thread u) k (λ same. omega (arith, low, same))))

  pub AreNumbered-turn : AreNumbered (live_phase 0 0 ∷ parts_left)
  AreNumbered-turn = (has-left 1 (omega arith), AreNumbered-left)

  pub AreNumbered-first : AreNumbered (first script)
  AreNumbered-first = (has-none 0 (live_phase 0 0) parts_left refl (has-left 0 (omega arith)), AreNumbered-turn)

-- ---- the slices'

length-slices : (i n : ℕ) → length (first_slices i n) ≡ n
length-slices i zero = refl
length-slices i (suc n) = omega (arith, length-slices (i + 1) n)

pub slices_fit : (n : ℕ) (xs : List (ℕ × Part)) → n ≤ length (first_slices 0 n ++ xs)
slices_fit n xs = omega (arith, length-append (first_slices 0 n) xs, length-slices 0 n)

pub first_of-slices : (i n k : ℕ) (xs : List (ℕ × Part)) → k < n → first_of (drop k (first_slices i n ++ xs)) ≡ live_slice (i + k) [] ∷ []
first_of-slices i zero k xs low = absurd (omega (arith, low))
first_of-slices i (suc n) zero xs low =
    let same : i ≡ i + zero = omega arith in
    ap (λ j. live_slice j [] ∷ []) same
first_of-slices i (suc n) (suc k) xs low =
    let same : (i + 1) + k ≡ i + suc k = omega arith in
    first_of-slices (i + 1) n k xs (omega (arith, low)) ∙ ap (λ j. live_slice j [] ∷ []) same
