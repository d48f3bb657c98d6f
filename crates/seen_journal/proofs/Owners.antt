-- Whose the entries at the positions of a list are.
use Rattle.std.proofs.Common.{◌≡◌, ◌≢◌, inl, inr, ℕ, zero, suc, ◌+◌, ◌<◌, ◌≤◌, ◌==◌, cond, true, false, Bool, List, [], ◌∷◌, ◌++◌, length, slice_index_or, refl, sym, ◌∙◌, ap, subst, arith, All, count_by}
use Rattle.std.proofs.lemmas.List.Sums.{sum_by-cons}
use Rattle.std.proofs.lemmas.List.Elements.{All-head, All-tail, All-weaker}
use Rattle.std.proofs.lemmas.Bool.{cases_Bool, eqb-true, cond-true, cond-false, eq-eqb}
use Rattle.seen_journal.specs.Prefixes.{IsPrefix}
use Rattle.seen_journal.specs.Entries.{entries_of, owns_at}
use Rattle.seen_journal.specs.Passes.{PassValue, EachOnce, HasAll, HasSeen}

-- numbers that differ are not equal
pub eqb-differ : (n m : ℕ) → n ≢ m → (n == m) ≡ false
eqb-differ n m other = elim (cases_Bool (n == m)) [ inl same ↦ absurd (other (eqb-true n m same)) | inr is ↦ is ]

-- tests that agree count the same
pub count_by-same : {X : Type 0} (p q : X → Bool) (xs : List X) → All (λ x. p x ≡ q x) xs → count_by p xs ≡ count_by q xs
count_by-same p q [] all = refl
count_by-same p q (x ∷ xs) all =
    let h = count_by-same p q xs (All-tail (λ y. p y ≡ q y) x xs all) in
    let a = sum_by-cons (λ y. cond (p y) 1 0) x xs in
    let b = sum_by-cons (λ y. cond (q y) 1 0) x xs in
    a ∙ (ap (λ n. n + count_by p xs) (ap (λ c. cond c 1 0) (All-head (λ y. p y ≡ q y) x xs all)) ∙ (ap (λ n. cond (q x) 1 0 + n) h ∙ sym b))

module _ {E : Type 0} where
  -- whose entry stands at a position
  abbrev pub owner_at : List (ℕ × E) → ℕ → ℕ
  owner_at [] k = 0
  owner_at (x ∷ xs) zero = x.0
  owner_at (x ∷ xs) (suc k) = owner_at xs k

  -- a pass owns a position where it is that one
  pub owns_at-owner_at : (n : ℕ) (all : List (ℕ × E)) (k : ℕ) → k < length all → owns_at n all k ≡ (n == owner_at all k)
  owns_at-owner_at n [] k low = absurd (omega (arith, low))
  owns_at-owner_at n (x ∷ xs) zero low = refl
  owns_at-owner_at n (x ∷ xs) (suc k) low = owns_at-owner_at n xs k (omega (arith, low))

  -- and that one has an entry
  pub length-entries_of_owner : (all : List (ℕ × E)) (k : ℕ) → k < length all → 0 < length (entries_of (owner_at all k) all)
  length-entries_of_owner [] k low = absurd (omega (arith, low))
  length-entries_of_owner (x ∷ xs) zero low = subst (λ l. 0 < length l) (sym (cond-true (x.0 == x.0) (x.1 ∷ entries_of x.0 xs) (entries_of x.0 xs) (eq-eqb x.0 x.0 refl))) (omega arith)
  length-entries_of_owner (x ∷ xs) (suc k) low =
      let h : 0 < length (entries_of (owner_at xs k) xs) = length-entries_of_owner xs k (omega (arith, low)) in
      elim (cases_Bool (x.0 == owner_at xs k)) [
        | inl same ↦ subst (λ l. 0 < length l) (sym (cond-true (x.0 == owner_at xs k) (x.1 ∷ entries_of (owner_at xs k) xs) (entries_of (owner_at xs k) xs) same)) (omega arith)
        | inr other ↦ subst (λ l. 0 < length l) (sym (cond-false (x.0 == owner_at xs k) (x.1 ∷ entries_of (owner_at xs k) xs) (entries_of (owner_at xs k) xs) other)) h
      ]

  -- a list that begins with an entry of a pass has one
  pub entries_of-not_empty : (x : ℕ × E) (xs : List (ℕ × E)) (n : ℕ) → (x.0 == n) ≡ true → entries_of n (x ∷ xs) ≡ [] → ⊥
  entries_of-not_empty x xs n same none =
      let f : x.1 ∷ entries_of n xs ≡ [] = sym (cond-true (x.0 == n) (x.1 ∷ entries_of n xs) (entries_of n xs) same) ∙ none in
      cc f

  -- in a list of no entry of a pass no position is its own
  pub owns_at-none : (n : ℕ) (xs : List (ℕ × E)) (k : ℕ) → entries_of n xs ≡ [] → owns_at n xs k ≡ false
  owns_at-none n [] k none = refl
  owns_at-none n (x ∷ xs) zero none = eqb-differ n x.0 (λ same. entries_of-not_empty x xs n (eq-eqb x.0 n (sym same)) none)
  owns_at-none n (x ∷ xs) (suc k) none = elim (cases_Bool (x.0 == n)) [
    | inl same ↦ absurd (entries_of-not_empty x xs n same none)
    | inr other ↦ owns_at-none n xs k (sym (cond-false (x.0 == n) (x.1 ∷ entries_of n xs) (entries_of n xs) other) ∙ none)
  ]

  -- where two lists begin alike and have the same entries of a pass, so have their rests, either way
  pub entries_of-tail_by : (x : ℕ × E) (xs ys : List (ℕ × E)) (n : ℕ) (c : Bool) → (x.0 == n) ≡ c → entries_of n (x ∷ ys) ≡ entries_of n (x ∷ xs) → entries_of n ys ≡ entries_of n xs
  entries_of-tail_by x xs ys n true is e =
      let f : x.1 ∷ entries_of n ys ≡ x.1 ∷ entries_of n xs = sym (cond-true (x.0 == n) (x.1 ∷ entries_of n ys) (entries_of n ys) is) ∙ (e ∙ cond-true (x.0 == n) (x.1 ∷ entries_of n xs) (entries_of n xs) is) in
      cc f
  entries_of-tail_by x xs ys n false is e = sym (cond-false (x.0 == n) (x.1 ∷ entries_of n ys) (entries_of n ys) is) ∙ (e ∙ cond-false (x.0 == n) (x.1 ∷ entries_of n xs) (entries_of n xs) is)

  -- the same, whoever the first entry is of
  pub entries_of-tail : (x : ℕ × E) (xs ys : List (ℕ × E)) (n : ℕ) → entries_of n (x ∷ ys) ≡ entries_of n (x ∷ xs) → entries_of n ys ≡ entries_of n xs
  entries_of-tail x xs ys n e = elim (cases_Bool (x.0 == n)) [ inl here ↦ entries_of-tail_by x xs ys n true here e | inr there ↦ entries_of-tail_by x xs ys n false there e ]

  -- a beginning that has all entries of a pass shows at each position whether it is its own
  pub owns_at-prefix : (n : ℕ) (seen all : List (ℕ × E)) → IsPrefix seen all → entries_of n all ≡ entries_of n seen → (k : ℕ) → owns_at n seen k ≡ owns_at n all k
  owns_at-prefix n [] all b same k = sym (owns_at-none n all k same)
  owns_at-prefix n (x ∷ xs) [] b same k = absurd (let e = b.1 in cc e)
  owns_at-prefix n (x ∷ xs) (y ∷ ys) b same zero = ap (λ (z : ℕ × E). n == z.0) (first x y xs b.0 ys b.1)
    where
      first : (x y : ℕ × E) (xs r ys : List (ℕ × E)) → x ∷ (xs ++ r) ≡ y ∷ ys → x ≡ y
      first x y xs r ys e = cc e
  owns_at-prefix n (x ∷ xs) (y ∷ ys) b same (suc k) =
      owns_at-prefix n xs ys (b.0, rest x y xs b.0 ys b.1) (entries_of-tail x xs ys n (subst (λ (z : ℕ × E). entries_of n (z ∷ ys) ≡ entries_of n (x ∷ xs)) (sym (first x y xs b.0 ys b.1)) same)) k
    where
      first : (x y : ℕ × E) (xs r ys : List (ℕ × E)) → x ∷ (xs ++ r) ≡ y ∷ ys → x ≡ y
      first x y xs r ys e = cc e

      rest : (x y : ℕ × E) (xs r ys : List (ℕ × E)) → x ∷ (xs ++ r) ≡ y ∷ ys → xs ++ r ≡ ys
      rest x y xs r ys e = cc e

  -- each position is that of an own entry of just one pass
  pub count_by-owns_at : (all : List (ℕ × E)) (quotas : List ℕ) (passes : List (PassValue E)) → ((n : ℕ) → length (entries_of n all) ≤ slice_index_or quotas n 0)
      → EachOnce quotas passes → All (HasAll all) passes → (k : ℕ) → k < length all → count_by (λ (p : PassValue E). owns_at p.number p.seen k) passes ≡ 1
  count_by-owns_at all quotas passes bound once whole k low =
      let a : ℕ = owner_at all k in
      let room : 0 < slice_index_or quotas a 0 = let h = length-entries_of_owner all k low in let b = bound a in omega (arith, h, b) in
      count_by-same (λ (p : PassValue E). owns_at p.number p.seen k) (λ (p : PassValue E). p.number == a) passes
      (All-weaker (HasAll all) (λ (p : PassValue E). owns_at p.number p.seen k ≡ (p.number == a)) (λ p w. owns_at-prefix p.number p.seen all w.prefix w.own_are k ∙ owns_at-owner_at p.number all k low) passes whole)
      ∙ once a room

  -- a pass that has seen the whole list and gained no entry had all of its own
  pub HasAll-seen : (p q : PassValue E) (all : List (ℕ × E)) → HasSeen p q all → HasAll all p
  HasAll-seen p q all h = record {
    prefix = subst (λ l. IsPrefix p.seen l) h.seen_are h.prefix;
    own_are = ap (entries_of p.number) (sym h.seen_are) ∙ (ap (λ n. entries_of n q.seen) (sym h.number) ∙ h.own_are);
  }
