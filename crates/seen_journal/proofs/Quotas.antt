-- How long a list is in which no pass has more entries than its quota.
use Rattle.std.proofs.Common.{◌≡◌, ◌≢◌, inl, inr, ℕ, zero, suc, ◌+◌, ◌-◌, ◌<◌, ◌≤◌, ◌==◌, true, false, List, [], ◌∷◌, length, slice_index_or, sum, refl, sym, ◌∙◌, ap, subst, arith}
use Rattle.std.proofs.lemmas.List.Sums.{sum_by-cons}
use Rattle.std.proofs.lemmas.Bool.{cases_Bool, eqb-true, eqb-false, cond-true, cond-false, eq-eqb}
use Rattle.seen_journal.specs.Entries.{entries_of}

-- the sum of a list
pub sum-cons : (q : ℕ) (qs : List ℕ) → sum (q ∷ qs) ≡ q + sum qs
sum-cons = sum_by-cons (λ (x : ℕ). x)

-- the quotas with one less at a place
abbrev pub minus_one : ℕ → List ℕ → List ℕ
minus_one n [] = []
minus_one zero (q ∷ qs) = (q - 1) ∷ qs
minus_one (suc n) (q ∷ qs) = q ∷ minus_one n qs

-- the quota at that place
pub slice_index_or-minus_one_here : (n : ℕ) (qs : List ℕ) → slice_index_or (minus_one n qs) n 0 ≡ slice_index_or qs n 0 - 1
slice_index_or-minus_one_here n [] = omega arith
slice_index_or-minus_one_here zero (q ∷ qs) = refl
slice_index_or-minus_one_here (suc n) (q ∷ qs) = slice_index_or-minus_one_here n qs

-- and at another
pub slice_index_or-minus_one_other : (n m : ℕ) (qs : List ℕ) → n ≢ m → slice_index_or (minus_one n qs) m 0 ≡ slice_index_or qs m 0
slice_index_or-minus_one_other n m [] other = refl
slice_index_or-minus_one_other zero zero (q ∷ qs) other = absurd (other refl)
slice_index_or-minus_one_other zero (suc m) (q ∷ qs) other = refl
slice_index_or-minus_one_other (suc n) zero (q ∷ qs) other = refl
slice_index_or-minus_one_other (suc n) (suc m) (q ∷ qs) other = slice_index_or-minus_one_other n m qs (λ e. other (ap suc e))

-- and their sum
pub sum-minus_one : (n : ℕ) (qs : List ℕ) → 0 < slice_index_or qs n 0 → sum (minus_one n qs) + 1 ≡ sum qs
sum-minus_one n [] some = absurd (omega (arith, some))
sum-minus_one zero (q ∷ qs) some = let a = sum-cons (q - 1) qs in let b = sum-cons q qs in omega (arith, some, a, b)
sum-minus_one (suc n) (q ∷ qs) some = let h = sum-minus_one n qs some in let a = sum-cons q (minus_one n qs) in let b = sum-cons q qs in omega (arith, h, a, b)

module _ {E : Type 0} where
  -- where no pass has more entries than its quota and one has fewer, the list is shorter than the sum of the quotas
  pub length-below_quotas : (all : List (ℕ × E)) (qs : List ℕ) → ((n : ℕ) → length (entries_of n all) ≤ slice_index_or qs n 0)
      → (m : ℕ) → length (entries_of m all) < slice_index_or qs m 0 → length all < sum qs
  length-below_quotas [] qs bound m room = some_sum m qs room
    where
      some_sum : (m : ℕ) (qs : List ℕ) → 0 < slice_index_or qs m 0 → 0 < sum qs
      some_sum m [] room = absurd (omega (arith, room))
      some_sum zero (q ∷ qs) room = let a = sum-cons q qs in omega (arith, room, a)
      some_sum (suc m) (q ∷ qs) room = let h = some_sum m qs room in let a = sum-cons q qs in omega (arith, h, a)
  length-below_quotas (x ∷ xs) qs bound m room =
      let a : ℕ = x.0 in
      let here : length (entries_of a (x ∷ xs)) ≡ length (entries_of a xs) + 1 = counted x xs a (eq-eqb a a refl) in
      let first : length (entries_of a xs) + 1 ≤ slice_index_or qs a 0 = subst (λ k. k ≤ slice_index_or qs a 0) here (bound a) in
      let less : sum (minus_one a qs) + 1 ≡ sum qs = sum-minus_one a qs (omega (arith, first)) in
      let rest : length xs < sum (minus_one a qs) = length-below_quotas xs (minus_one a qs) (λ n. elim (cases_Bool (a == n)) [
        | inl same ↦ let e = slice_index_or-minus_one_here a qs in subst (λ k. length (entries_of k xs) ≤ slice_index_or (minus_one a qs) k 0) (eqb-true a n same) (omega (arith, e, first))
        | inr other ↦ let e = slice_index_or-minus_one_other a n qs (eqb-false a n other) in let f = skipped x xs n other in let b = bound n in omega (arith, e, f, b)
      ]) m (elim (cases_Bool (a == m)) [
        | inl same ↦
            let e = slice_index_or-minus_one_here a qs in
            let r : length (entries_of a (x ∷ xs)) < slice_index_or qs a 0 = subst (λ k. length (entries_of k (x ∷ xs)) < slice_index_or qs k 0) (sym (eqb-true a m same)) room in
            subst (λ k. length (entries_of k xs) < slice_index_or (minus_one a qs) k 0) (eqb-true a m same) (omega (arith, e, here, r))
        | inr other ↦ let e = slice_index_or-minus_one_other a m qs (eqb-false a m other) in let f = skipped x xs m other in omega (arith, e, f, room)
      ]) in
      omega (arith, less, rest)
    where
      counted : (x : ℕ × E) (xs : List (ℕ × E)) (n : ℕ) → (x.0 == n) ≡ true → length (entries_of n (x ∷ xs)) ≡ length (entries_of n xs) + 1
      counted x xs n same = ap length (cond-true (x.0 == n) (x.1 ∷ entries_of n xs) (entries_of n xs) same) ∙ omega arith

      skipped : (x : ℕ × E) (xs : List (ℕ × E)) (n : ℕ) → (x.0 == n) ≡ false → length (entries_of n (x ∷ xs)) ≡ length (entries_of n xs)
      skipped x xs n other = ap length (cond-false (x.0 == n) (x.1 ∷ entries_of n xs) (entries_of n xs) other)
