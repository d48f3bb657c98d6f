-- The last epoch up to which something holds.
use Rattle.std.proofs.Common.{◌≡◌, ℕ, zero, suc, ◌+◌, ◌-◌, ◌≤◌, Bool, true, false, not, cond, List, [], ◌∷◌, length, get_or, ◌⊎◌, inl, inr, refl, sym, subst, ap, ◌∙◌, arith}
use Rattle.std.specs.Prelude.{nat_lt}
use Rattle.std.specs.List.{position_or_len, range_with_len}
use Rattle.std.proofs.lemmas.Bool.{cases_Bool, cases_lt, cases_order, le-ltb, lt-ltb, ltb-false, ltb-true, not-false}
use Rattle.std.proofs.lemmas.List.FromFn.{get_or-range_with_len, length-range_with_len}
use Rattle.std.proofs.lemmas.List.Sums.{fails_before_first, passes_at_first}
use Rattle.private_lru.specs.Spans.{IsSpan, last_within}

-- ---- one that is the last

-- counted up from the first
IsSpan-counted : (Holds : ℕ → Type 0) → ((n : ℕ) → Holds n ⊎ (Holds n → ⊥)) → (fuel first most : ℕ) → first + fuel ≡ most → Holds first → (last : ℕ) × IsSpan Holds first most last
IsSpan-counted Holds either zero first most is holds =
    (first, record { from_first = omega arith; to_last = omega (arith, is); always = λ n low high. let same : first ≡ n = omega (arith, low, high) in subst Holds same holds; no_longer = λ less p. absurd (omega (arith, less, is)) })
IsSpan-counted Holds either (suc fuel) first most is holds = elim (either (first + 1)) [
  | inl more ↦
      let rest = IsSpan-counted Holds either fuel (first + 1) most (omega (arith, is)) more in
      let begins = rest.1.from_first in (
        rest.0,
        record {
          from_first = omega (arith, begins);
          to_last = rest.1.to_last;
          always = λ n low high. elim (cases_lt first n) [
            | inl lt ↦ rest.1.always n (omega (arith, lt)) high
            | inr le ↦ let same : first ≡ n = omega (arith, low, le) in subst Holds same holds
          ];
          no_longer = rest.1.no_longer;
        },
      )
  | inr none ↦ (
    first,
    record { from_first = omega arith; to_last = omega (arith, is); always = λ n low high. let same : first ≡ n = omega (arith, low, high) in subst Holds same holds; no_longer = λ less p. none p },
  )
]

pub IsSpan-some : (Holds : ℕ → Type 0) → ((n : ℕ) → Holds n ⊎ (Holds n → ⊥)) → (first most : ℕ) → first ≤ most → Holds first → (last : ℕ) × IsSpan Holds first most last
IsSpan-some Holds either first most le holds = IsSpan-counted Holds either (most - first) first most (omega (arith, le)) holds

-- there is one
pub IsSpan-same : (Holds : ℕ → Type 0) (first most last other : ℕ) → IsSpan Holds first most last → IsSpan Holds first most other → last ≡ other
IsSpan-same Holds first most last other one two =
    let a = one.from_first in let b = two.from_first in let c = one.to_last in let d = two.to_last in
    elim (cases_order last other) [
      | inl e ↦ e
      | inr (inl lt) ↦ absurd (one.no_longer (omega (arith, lt, d)) (two.always (last + 1) (omega (arith, a)) (omega (arith, lt))))
      | inr (inr lt) ↦ absurd (two.no_longer (omega (arith, lt, c)) (one.always (other + 1) (omega (arith, b)) (omega (arith, lt))))
    ]

-- what holds just where something else does has the same last epoch
pub IsSpan-as : (P Q : ℕ → Type 0) (first most last : ℕ) → ((n : ℕ) → P n → Q n) → ((n : ℕ) → Q n → P n) → IsSpan P first most last → IsSpan Q first most last
IsSpan-as P Q first most last there back span = record {
  from_first = span.from_first;
  to_last = span.to_last;
  always = λ n low high. there n (span.always n low high);
  no_longer = λ less q. span.no_longer less (back (last + 1) q);
}

-- ---- by a test

-- the first that passes is within the list, or the end
position_or_len-le : {X : Type 0} (p : X → Bool) (xs : List X) → position_or_len p xs ≤ length xs
position_or_len-le p [] = omega arith
position_or_len-le p (x ∷ xs) = at (p x) (position_or_len-le p xs)
  where
    at : (b : Bool) → position_or_len p xs ≤ length xs → cond (not b) (1 + position_or_len p xs) 0 ≤ suc (length xs)
    at true le = omega arith
    at false le = omega (arith, le)

module _ (test : ℕ → Bool) (first most : ℕ) where
  abbrev is_lost : ℕ → Bool
  is_lost epoch = not (test epoch)

  abbrev later : List ℕ
  later = range_with_len (first + 1) (most - first)

  abbrev count : ℕ
  count = position_or_len is_lost later

  len : length later ≡ most - first
  len = length-range_with_len (first + 1) (most - first)

  pub IsSpan-last_within : first ≤ most → test first ≡ true → IsSpan (λ epoch. test epoch ≡ true) first most (last_within test first (most - first))
  IsSpan-last_within known now =
      let le = position_or_len-le is_lost later in
      record {
        from_first = omega arith;
        to_last = omega (arith, le, len, known);
        always = λ epoch low high. elim (cases_lt first epoch) [
          | inl lt ↦
              let at : get_or later (epoch - (first + 1)) 0 ≡ first + 1 + (epoch - (first + 1)) = get_or-range_with_len (first + 1) (most - first) (epoch - (first + 1)) 0 (omega (arith, lt, high, le, len)) in
              let same : get_or later (epoch - (first + 1)) 0 ≡ epoch = omega (arith, at, lt) in
              let fails = fails_before_first is_lost later (epoch - (first + 1)) 0 (omega (arith, lt, high)) in
              let here : not (test epoch) ≡ false = ap is_lost (sym same) ∙ fails in
              not-false (test epoch) here
          | inr ge ↦ let same : epoch ≡ first = omega (arith, ge, low) in ap test same ∙ now
        ];
        no_longer = λ more still.
            let at : get_or later count 0 ≡ first + 1 + count = get_or-range_with_len (first + 1) (most - first) count 0 (omega (arith, more, len)) in
            let passes = passes_at_first is_lost later 0 (omega (arith, more, len)) in
            let same : first + count + 1 ≡ get_or later count 0 = omega (arith, at) in
            let lost : not (test (first + count + 1)) ≡ true = ap is_lost same ∙ passes in
            let none : not true ≡ true = ap not (sym still) ∙ lost in
            absurd (let f : false ≡ true = none in cc);
      }

-- ---- among fewer epochs

-- the first of a range that passes is past a number just where the first of a longer range is
position_or_len-range_within : (q : ℕ → Bool) (a more all k : ℕ) → more ≤ all → k ≤ more → nat_lt (position_or_len q (range_with_len a more)) k ≡ nat_lt (position_or_len q (range_with_len a all)) k
position_or_len-range_within q a zero all k fits le = le-ltb 0 k (omega (arith, le)) ∙ sym (le-ltb (position_or_len q (range_with_len a all)) k (omega (arith, le)))
position_or_len-range_within q a (suc more) zero k fits le = absurd (omega (arith, fits))
position_or_len-range_within q a (suc more) (suc all) zero fits le =
    le-ltb (position_or_len q (range_with_len a (suc more))) 0 (omega arith) ∙ sym (le-ltb (position_or_len q (range_with_len a (suc all))) 0 (omega arith))
position_or_len-range_within q a (suc more) (suc all) (suc k) fits le = elim (cases_Bool (q a)) [
  | inl is ↦ rw is refl
  | inr is_not ↦ rw is_not (nat_lt-one (position_or_len q (range_with_len (a + 1) more)) (position_or_len q (range_with_len (a + 1) all)) k (position_or_len-range_within q (a + 1) more all k (omega (arith, fits)) (omega (arith, le))))
]
  where
    nat_lt-one : (x y k : ℕ) → nat_lt x k ≡ nat_lt y k → nat_lt (1 + x) (suc k) ≡ nat_lt (1 + y) (suc k)
    nat_lt-one x y k same = elim (cases_Bool (nat_lt x k)) [
      | inl lt ↦ lt-ltb (1 + x) (suc k) (let a = ltb-true x k lt in omega (arith, a)) ∙ sym (lt-ltb (1 + y) (suc k) (let b = ltb-true y k (sym same ∙ lt) in omega (arith, b)))
      | inr ge ↦ le-ltb (1 + x) (suc k) (let a = ltb-false x k ge in omega (arith, a)) ∙ sym (le-ltb (1 + y) (suc k) (let b = ltb-false y k (sym same ∙ ge) in omega (arith, b)))
    ]

nat_lt-from : (x y a k : ℕ) → a ≤ k → nat_lt x (k - a) ≡ nat_lt y (k - a) → nat_lt (a + x) k ≡ nat_lt (a + y) k
nat_lt-from x y a k le same = elim (cases_Bool (nat_lt x (k - a))) [
  | inl lt ↦ lt-ltb (a + x) k (let u = ltb-true x (k - a) lt in omega (arith, u)) ∙ sym (lt-ltb (a + y) k (let v = ltb-true y (k - a) (sym same ∙ lt) in omega (arith, v)))
  | inr ge ↦ le-ltb (a + x) k (let u = ltb-false x (k - a) ge in omega (arith, u, le)) ∙ sym (le-ltb (a + y) k (let v = ltb-false y (k - a) (sym same ∙ ge) in omega (arith, v, le)))
]

-- an epoch is past the last one just where it is past the last one of fewer epochs, if it is one of these
pub last_within-fewer : (test : ℕ → Bool) (first more all epoch : ℕ) → more ≤ all → epoch ≤ first + more → nat_lt (last_within test first more) epoch ≡ nat_lt (last_within test first all) epoch
last_within-fewer test first more all epoch fits le =
    let q : ℕ → Bool = λ later. not (test later) in
    let x : ℕ = position_or_len q (range_with_len (first + 1) more) in
    let y : ℕ = position_or_len q (range_with_len (first + 1) all) in
    elim (cases_lt epoch first) [
      | inl early ↦ le-ltb (first + x) epoch (omega (arith, early)) ∙ sym (le-ltb (first + y) epoch (omega (arith, early)))
      | inr late ↦ nat_lt-from x y first epoch late (position_or_len-range_within q (first + 1) more all (epoch - first) fits (omega (arith, le, late)))
    ]
