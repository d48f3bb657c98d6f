-- Where the lowest run is not the whole, a number is missing, and the other way round.
use Rattle.std.proofs.Common.{◌≡◌, ℕ, zero, suc, ◌+◌, ◌^◌, ◌<◌, ◌≤◌, ◌⊎◌, Bool, true, false, cond, eqb, List, [], ◌∷◌, length, filter, inl, inr, refl, sym, ap, subst, ◌∙◌, arith}
use Rattle.std.specs.Int.{bit_at}
use Rattle.std.specs.List.{range_with_len}
use Rattle.std.proofs.lemmas.Bool.{cases_lt, eq-eqb, eqb-true, lt-ltb, ltb-true, true≢false, false≢true}
use Rattle.std.proofs.lemmas.Nat.Bits.{bit_at_above}
use Rattle.cbm.specs.Gaps.{Missing}
use Rattle.cbm.specs.Masks.{has_way, lowest_run, ways_of}
use Rattle.cbm.specs.Validity.{has_gaps}
use Rattle.cbm.proofs.Faults.{lowest_run-whole}
use Rattle.lists.proofs.Filters.{length-filter_some}

-- the numbers of a range that pass a test
abbrev passing : (ℕ → Bool) → ℕ → ℕ → List ℕ
passing p a n = filter p (range_with_len a n)

-- The first number that passes is `first`.
record IsFirst (p : ℕ → Bool) (a n first : ℕ) (rest : List ℕ) : Type 0 where
  list : passing p a n ≡ first ∷ rest
  least : a ≤ first
  passes : p first ≡ true
  below : (k : ℕ) → a ≤ k → k < first → p k ≡ false

-- either none passes, or one is the first
passing-none_or_first : (p : ℕ → Bool) (a n : ℕ) → (passing p a n ≡ []) ⊎ ((first : ℕ) × (rest : List ℕ) × IsFirst p a n first rest)
passing-none_or_first p a zero = inl refl
passing-none_or_first p a (suc n) = at (p a) refl (passing-none_or_first p (a + 1) n)
  where
    from_here : p a ≡ false → (k first : ℕ) → ((j : ℕ) → a + 1 ≤ j → j < first → p j ≡ false) → a ≤ k → k < first → p k ≡ false
    from_here fails k first below low high = elim (cases_lt a k) [
      | inl lt ↦ below k (omega arith) high
      | inr le ↦ (let here : a ≡ k = omega arith in subst (λ (j : ℕ). p j ≡ false) here fails)
    ]

    at : (b : Bool) → b ≡ p a → (passing p (a + 1) n ≡ []) ⊎ ((first : ℕ) × (rest : List ℕ) × IsFirst p (a + 1) n first rest) → (passing p a (suc n) ≡ []) ⊎ ((first : ℕ) × (rest : List ℕ) × IsFirst p a (suc n) first rest)
    at true e more = inr (a, passing p (a + 1) n, record { list = rw (sym e) refl; least = omega arith; passes = sym e; below = λ k low high. absurd (omega arith) })
    at false e (inl none) = inl (rw (sym e) none)
    at false e (inr f) = inr (
      f.0,
      f.1,
      record {
        list = rw (sym e) f.2.list;
        least = omega (arith, f.2.least);
        passes = f.2.passes;
        below = λ k low high. from_here (sym e) k f.0 f.2.below low high;
      },
    )

-- A number fails between two that pass.
record Fails (p : ℕ → Bool) : Type 0 where
  low : ℕ
  mid : ℕ
  high : ℕ
  above : low < mid
  under : mid < high
  low_passes : p low ≡ true
  mid_fails : p mid ≡ false
  high_passes : p high ≡ true

-- where the lowest run is shorter than the list, some number fails between two that pass
Fails-shorter : (p : ℕ → Bool) (a n : ℕ) → length (lowest_run (passing p a n)) < length (passing p a n) → Fails p
Fails-shorter p a zero h = absurd (omega arith)
Fails-shorter p a (suc n) h = at (p a) refl h (passing-none_or_first p (a + 1) n) (Fails-shorter p (a + 1) n)
  where
    behind : p a ≡ true → (first : ℕ) (rest : List ℕ) → IsFirst p (a + 1) n first rest → length (lowest_run (a ∷ first ∷ rest)) < length (a ∷ first ∷ rest) → (length (lowest_run (first ∷ rest)) < length (first ∷ rest) → Fails p) → Fails p
    behind here first rest f h more = elim (cases_lt (a + 1) first) [
      | inl lt ↦ record { low = a; mid = a + 1; high = first; above = omega arith; under = lt; low_passes = here; mid_fails = f.below (a + 1) (omega arith) lt; high_passes = f.passes }
      | inr le ↦ (let same : eqb first (a + 1) ≡ true = eq-eqb first (a + 1) (omega (arith, f.least)) in
          let longer : length (a ∷ lowest_run (first ∷ rest)) < length (a ∷ first ∷ rest) = rw same at h in
          more (omega arith))
    ]

    at : (b : Bool) → b ≡ p a → length (lowest_run (cond b (a ∷ passing p (a + 1) n) (passing p (a + 1) n))) < length (cond b (a ∷ passing p (a + 1) n) (passing p (a + 1) n)) → (passing p (a + 1) n ≡ []) ⊎ ((first : ℕ) × (rest : List ℕ) × IsFirst p (a + 1) n first rest) → (length (lowest_run (passing p (a + 1) n)) < length (passing p (a + 1) n) → Fails p) → Fails p
    at false e h tail more = more h
    at true e h (inl none) more = absurd (omega (arith, subst (λ (xs : List ℕ). length (lowest_run (a ∷ xs)) < length (a ∷ xs)) none h))
    at true e h (inr f) more =
        behind (sym e) f.0 f.1 f.2 (subst (λ (xs : List ℕ). length (lowest_run (a ∷ xs)) < length (a ∷ xs)) f.2.list h)
        (λ shorter. more (subst (λ (xs : List ℕ). length (lowest_run xs) < length xs) (sym f.2.list) shorter))

-- what the rest of a range tells of a number, from one that passes
abbrev FromTheRest : (ℕ → Bool) → ℕ → ℕ → ℕ → Type 0
FromTheRest p a n mid = lowest_run (passing p (a + 1) n) ≡ passing p (a + 1) n → (from : ℕ) → a + 1 ≤ from → from < mid → p from ≡ true → p mid ≡ true

-- where the lowest run is the whole list, each number between two that pass does too
passing-between : (p : ℕ → Bool) (a n : ℕ) → lowest_run (passing p a n) ≡ passing p a n → (low mid high : ℕ) → a ≤ low → low < mid → mid < high → high < a + n → p low ≡ true → p high ≡ true → p mid ≡ true
passing-between p a zero whole low mid high least above under within low_passes high_passes = absurd (omega arith)
passing-between p a (suc n) whole low mid high least above under within low_passes high_passes =
    at (p a) refl whole (passing-none_or_first p (a + 1) n)
    (λ rest from least_from above_from passes. passing-between p (a + 1) n rest from mid high least_from above_from under (omega arith) passes high_passes)
  where
    next : FromTheRest p a n mid → lowest_run (passing p (a + 1) n) ≡ passing p (a + 1) n → p (a + 1) ≡ true → low ≤ a → p mid ≡ true
    next more rest passes le = elim (cases_lt (a + 1) mid) [
      | inl lt ↦ more rest (a + 1) (omega arith) lt passes
      | inr ge ↦ (let here : a + 1 ≡ mid = omega arith in subst (λ (k : ℕ). p k ≡ true) here passes)
    ]

    joined : (b : Bool) (q : ℕ) (rest : List ℕ) → cond b (lowest_run (q ∷ rest)) [] ≡ q ∷ rest → (b ≡ true) × (lowest_run (q ∷ rest) ≡ q ∷ rest)
    joined true q rest e = (refl, e)
    joined false q rest e = absurd cc

    tail_of : (x : ℕ) (xs ys : List ℕ) → x ∷ xs ≡ x ∷ ys → xs ≡ ys
    tail_of x xs ys e = cc

    first_is : FromTheRest p a n mid → (first : ℕ) (rest : List ℕ) → IsFirst p (a + 1) n first rest → lowest_run (a ∷ first ∷ rest) ≡ a ∷ first ∷ rest → p mid ≡ true
    first_is more first rest f whole_here =
        let j = joined (eqb first (a + 1)) first rest (tail_of a _ _ whole_here) in
        let here : first ≡ a + 1 = eqb-true first (a + 1) j.0 in
        let whole_rest : lowest_run (passing p (a + 1) n) ≡ passing p (a + 1) n = ap lowest_run f.list ∙ j.1 ∙ sym f.list in
        elim (cases_lt a low) [
          | inl lt ↦ more whole_rest low (omega arith) above low_passes
          | inr le ↦ next more whole_rest (subst (λ (k : ℕ). p k ≡ true) here f.passes) le
        ]

    at : (b : Bool) → b ≡ p a → lowest_run (cond b (a ∷ passing p (a + 1) n) (passing p (a + 1) n)) ≡ cond b (a ∷ passing p (a + 1) n) (passing p (a + 1) n) → (passing p (a + 1) n ≡ []) ⊎ ((first : ℕ) × (rest : List ℕ) × IsFirst p (a + 1) n first rest) → FromTheRest p a n mid → p mid ≡ true
    at false e whole_here tail more = elim (cases_lt a low) [
      | inl lt ↦ more whole_here low (omega arith) above low_passes
      | inr le ↦ (let here : low ≡ a = omega arith in absurd (true≢false (sym low_passes ∙ ap p here ∙ sym e)))
    ]
    at true e whole_here (inl none) more = absurd (omega (arith, length-filter_some p (a + 1) n high (omega arith) (omega arith) high_passes, ap length none))
    at true e whole_here (inr f) more = first_is more f.0 f.1 f.2 (subst (λ (xs : List ℕ). lowest_run (a ∷ xs) ≡ a ∷ xs) f.2.list whole_here)

-- ---- masks

-- a mask with gaps lacks a way between two that it has
pub Missing-has_gaps : (mask : ℕ) → has_gaps (ways_of mask) ≡ true → Missing mask
unfolding ways_of
Missing-has_gaps mask h =
    let f = Fails-shorter (has_way mask) 0 64 (ltb-true (length (lowest_run (ways_of mask))) (length (ways_of mask)) h) in
    record { low = f.low; way = f.mid; high = f.high; above_low = f.above; below_high = f.under; has_low = f.low_passes; lacks_way = f.mid_fails; has_high = f.high_passes }

-- a mask that lacks a way between two that it has has gaps
pub has_gaps-missing : (mask : ℕ) → mask < 2 ^ 64 → Missing mask → has_gaps (ways_of mask) ≡ true
unfolding ways_of
has_gaps-missing mask small m = elim (cases_lt (length (lowest_run (ways_of mask))) (length (ways_of mask))) [
  | inl lt ↦ lt-ltb (length (lowest_run (ways_of mask))) (length (ways_of mask)) lt
  | inr le ↦ absurd (false≢true (sym m.lacks_way ∙ passing-between (has_way mask) 0 64 (lowest_run-whole (ways_of mask) le) m.low m.way m.high (omega arith) m.above_low m.below_high (within m.high m.has_high) m.has_low m.has_high))
]
  where
    within : (k : ℕ) → has_way mask k ≡ true → k < 64
    within k e = elim (cases_lt k 64) [
      | inl lt ↦ lt
      | inr ge ↦ (let none : bit_at mask k ≡ 0 = bit_at_above mask 64 k small ge in absurd (omega (arith, eqb-true (bit_at mask k) 1 e, none)))
    ]
