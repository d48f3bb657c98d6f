-- How many lines of a run, one after the other, are in one set, and how many uses of them come at each distance.
use Rattle.std.proofs.Common.{◌≡◌, ℕ, zero, suc, ◌+◌, ◌-◌, ◌*◌, ◌%◌, ◌<◌, ◌≤◌, Bool, true, false, ◌==◌, cond, nat_lt, [], ◌∷◌, ◌++◌, length, refl, sym, ap, ◌∙◌, arith, inl, inr}
use Rattle.std.specs.List.{filter, range_with_len}
use Rattle.std.proofs.Math.Nat.{add-mod-mod, mod-lt, mul-add-mod_self_right}
use Rattle.std.proofs.lemmas.Bool.{cases_Bool, cases_lt, eq-eqb, eqb-false, eqb-true, le-ltb, lt-ltb, ne_eqb}
use Rattle.std.proofs.lemmas.List.{length-append}
use Rattle.std.proofs.lemmas.List.Elements.{filter-append}
use Rattle.std.proofs.lemmas.Nat.{mod-mul-add}
use Rattle.lists.proofs.Ranges.{range_with_len-suc}
use Rattle.lists.proofs.Sums.{sum_below-plus, sum_below-rows, sum_below-same}
use Rattle.lists.specs.Sums.{one_if, sum_below}

-- how many numbers of a range pass a test
pub length-filter_range : (p : ℕ → Bool) (a n : ℕ) → length (filter p (range_with_len a n)) ≡ sum_below n (λ j. one_if (p (a + j)))
length-filter_range p a zero = refl
length-filter_range p a (suc n) =
    let next : suc n ≡ n + 1 = omega arith in
    let ih : length (filter p (range_with_len a n)) ≡ sum_below n (λ j. one_if (p (a + j))) = length-filter_range p a n in
    let more : filter p (range_with_len a (suc n)) ≡ filter p (range_with_len a n) ++ filter p ((a + n) ∷ []) =
    ap (λ (k : ℕ). filter p (range_with_len a k)) next ∙ (ap (filter p) (range_with_len-suc a n) ∙ filter-append p (range_with_len a n) ((a + n) ∷ [])) in
    let all : length (filter p (range_with_len a (suc n))) ≡ length (filter p (range_with_len a n)) + length (filter p ((a + n) ∷ [])) =
    ap length more ∙ length-append (filter p (range_with_len a n)) (filter p ((a + n) ∷ [])) in
    let last : length (filter p ((a + n) ∷ [])) ≡ one_if (p (a + n)) = length-filter_one p (a + n) in
    omega (arith, all, ih, last)
  where
    length-cond : (b : Bool) (x : ℕ) → length (cond b (x ∷ []) []) ≡ one_if b
    length-cond true x = refl
    length-cond false x = refl

    length-filter_one : (p : ℕ → Bool) (x : ℕ) → length (filter p (x ∷ [])) ≡ one_if (p x)
    length-filter_one p x = length-cond (p x) x

-- what is added to a number is found again by what the sum leaves
mod-added : (s a j : ℕ) → 0 < s → j % s ≡ (a * s - a + (a + j) % s) % s
mod-added zero a j lt = absurd (omega arith)
mod-added (suc t) a j lt =
    let more : a * suc t ≡ a * t + a = omega arith in
    let sum : a * suc t + j ≡ a * suc t - a + (a + j) = omega (arith, more) in
    sym (mul-add-mod_self_right a (suc t) j) ∙ (ap (λ (k : ℕ). k % suc t) sum ∙ sym (add-mod-mod (a * suc t - a) (a + j) (suc t)))

-- two lines of a run are in one set just where their places are
same_set-run : (s a j i : ℕ) → 0 < s → ((a + j) % s == (a + i) % s) ≡ (j % s == i % s)
same_set-run s a j i lt = elim (cases_Bool (j % s == i % s)) [
  | inl h ↦
      let same : j % s ≡ i % s = eqb-true (j % s) (i % s) h in
      let e : (a + j) % s ≡ (a + i) % s = sym (add-mod-mod a j s) ∙ (ap (λ (k : ℕ). (a + k) % s) same ∙ add-mod-mod a i s) in
      eq-eqb ((a + j) % s) ((a + i) % s) e ∙ sym h
  | inr h ↦
      ne_eqb ((a + j) % s) ((a + i) % s)
      (λ e. eqb-false (j % s) (i % s) h (mod-added s a j lt ∙ (ap (λ (k : ℕ). (a * s - a + k) % s) e ∙ sym (mod-added s a i lt))))
      ∙ sym h
]

-- one number is among those below another
sum_below-one : (r c : ℕ) → sum_below r (λ k. one_if (k == c)) ≡ one_if (nat_lt c r)
sum_below-one zero c = let none : nat_lt c 0 ≡ false = le-ltb c 0 (omega arith) in rw none refl
sum_below-one (suc r) c =
    let ih : sum_below r (λ k. one_if (k == c)) ≡ one_if (nat_lt c r) = sum_below-one r c in
    elim (cases_lt c r) [
      | inl lt ↦
          let there : nat_lt c r ≡ true = lt-ltb c r lt in
          let still : nat_lt c (suc r) ≡ true = lt-ltb c (suc r) (omega arith) in
          let other : (r == c) ≡ false = ne_eqb r c (λ (e : r ≡ c). omega arith) in
          rw (still, other) (omega (arith, ih, ap one_if there))
      | inr ge ↦ elim (cases_Bool (r == c)) [
        | inl k ↦
            let e : r ≡ c = eqb-true r c k in
            let gone : nat_lt c r ≡ false = le-ltb c r ge in
            let still : nat_lt c (suc r) ≡ true = lt-ltb c (suc r) (omega arith) in
            rw (still, k) (omega (arith, ih, ap one_if gone))
        | inr k ↦
            let gone : nat_lt c r ≡ false = le-ltb c r ge in
            let still : nat_lt c (suc r) ≡ false = le-ltb c (suc r) (not-suc r c ge (eqb-false r c k)) in
            rw (still, k) (omega (arith, ih, ap one_if gone))
      ]
    ]
  where
    not-suc : (r c : ℕ) → r ≤ c → (r ≡ c → ⊥) → suc r ≤ c
    not-suc r c le ne = omega (arith, ne)

-- of so many whole rows of a set each and a rest, the places of one set
sum_below-own : (q r s c : ℕ) → c < s → r ≤ s → sum_below (q * s + r) (λ j. one_if (j % s == c)) ≡ q + one_if (nat_lt c r)
sum_below-own q r s c lt le =
    let rows : sum_below (q * s) (λ j. one_if (j % s == c)) ≡ q * 1 = sum_below-rows q s c 1 lt in
    let same : sum_below r (λ k. one_if ((q * s + k) % s == c)) ≡ sum_below r (λ k. one_if (k == c)) =
    sum_below-same r (λ k. one_if ((q * s + k) % s == c)) (λ k. one_if (k == c)) (λ k below. ap (λ (m : ℕ). one_if (m == c)) (mod-mul-add q s k (omega arith))) in
    omega (arith, sum_below-plus (q * s) r (λ j. one_if (j % s == c)), rows, same, sum_below-one r c)

-- how many lines of a run are in the set of one of them
pub length-own_run : (s a q r i : ℕ) → 0 < s → r ≤ s → length (filter (λ (y : ℕ). y % s == (a + i) % s) (range_with_len a (q * s + r))) ≡ q + one_if (nat_lt (i % s) r)
length-own_run s a q r i lt le =
    length-filter_range (λ (y : ℕ). y % s == (a + i) % s) a (q * s + r)
    ∙ (sum_below-same (q * s + r) (λ j. one_if ((a + j) % s == (a + i) % s)) (λ j. one_if (j % s == i % s)) (λ j below. ap one_if (same_set-run s a j i lt))
    ∙ sum_below-own q r s (i % s) (mod-lt i lt) le)

-- a sum of equal numbers
sum_below-equal : (n b : ℕ) (f : ℕ → ℕ) → ((k : ℕ) → k < n → f k ≡ b) → sum_below n f ≡ n * b
sum_below-equal zero b f each = omega arith
sum_below-equal (suc n) b f each =
    let less : sum_below n f ≡ n * b = sum_below-equal n b f (λ k h. each k (omega arith)) in
    let here : f n ≡ b = each n (omega arith) in
    let e : suc n * b ≡ n * b + b = omega arith in
    omega arith

-- whole rows that have one sum each
sum_below-periods : (q s : ℕ) (g : ℕ → ℕ) → sum_below (q * s) (λ i. g (i % s)) ≡ q * sum_below s g
sum_below-periods zero s g = let none : zero * s ≡ 0 = omega arith in let nothing : zero * sum_below s g ≡ 0 = omega arith in rw (none, nothing) refl
sum_below-periods (suc q) s g =
    let ih : sum_below (q * s) (λ i. g (i % s)) ≡ q * sum_below s g = sum_below-periods q s g in
    let long : suc q * s ≡ q * s + s = omega arith in
    let more : suc q * sum_below s g ≡ q * sum_below s g + sum_below s g = omega arith in
    let row : sum_below s (λ k. g ((q * s + k) % s)) ≡ sum_below s g = sum_below-same s (λ k. g ((q * s + k) % s)) g (λ k below. ap g (mod-mul-add q s k below)) in
    let split : sum_below (q * s + s) (λ i. g (i % s)) ≡ sum_below (q * s) (λ i. g (i % s)) + sum_below s (λ k. g ((q * s + k) % s)) = sum_below-plus (q * s) s (λ i. g (i % s)) in
    ap (λ (n : ℕ). sum_below n (λ i. g (i % s))) long ∙ omega (arith, ih, more, row, split)

-- what a row has before its rest and after it
sum_below-parted : (s r a b : ℕ) (g : ℕ → ℕ) → r ≤ s → ((k : ℕ) → k < r → g k ≡ a) → ((k : ℕ) → r ≤ k → g k ≡ b) → sum_below s g ≡ r * a + (s - r) * b
sum_below-parted s r a b g le before after =
    let whole : r + (s - r) ≡ s = omega arith in
    let first : sum_below r g ≡ r * a = sum_below-equal r a g before in
    let last : sum_below (s - r) (λ k. g (r + k)) ≡ (s - r) * b = sum_below-equal (s - r) b (λ k. g (r + k)) (λ k h. after (r + k) (omega arith)) in
    ap (λ (n : ℕ). sum_below n g) (sym whole) ∙ omega (arith, sum_below-plus r (s - r) g, first, last)

-- rows of two kinds of places, and a rest of one kind
sum_below-kinds : (q r s a b : ℕ) (g : ℕ → ℕ) → r ≤ s → ((k : ℕ) → k < r → g k ≡ a) → ((k : ℕ) → r ≤ k → g k ≡ b) → sum_below (q * s + r) (λ i. g (i % s)) ≡ q * (r * a + (s - r) * b) + sum_below r (λ k. g ((q * s + k) % s))
sum_below-kinds q r s a b g le before after =
    let rows : sum_below (q * s) (λ i. g (i % s)) ≡ q * sum_below s g = sum_below-periods q s g in
    let parted : q * sum_below s g ≡ q * (r * a + (s - r) * b) = ap (λ (n : ℕ). q * n) (sum_below-parted s r a b g le before after) in
    omega (arith, sum_below-plus (q * s) r (λ i. g (i % s)), rows, parted)

-- the uses at the two distances that there are, where one is one less than the other
sum_of-kinds : (q r d a b : ℕ) → q * (r * a + d * b) + r * a ≡ (r * q + r) * a + (d * q) * b
sum_of-kinds q r d a b = omega arith

-- How many lines of a run have fewer than so many others of it in their set: of q whole rows and r lines more, each of the first r sets
-- has q + 1 lines, and each other set q.
pub sum_below-run : (q r s most : ℕ) → r < s
    → sum_below (q * s + r) (λ i. one_if (nat_lt (q + one_if (nat_lt (i % s) r) - 1) most)) ≡ (r * q + r) * one_if (nat_lt q most) + ((s - r) * q) * one_if (nat_lt (q - 1) most)
sum_below-run q r s most lt =
    let g : ℕ → ℕ = λ (k : ℕ). one_if (nat_lt (q + one_if (nat_lt k r) - 1) most) in
    let a : ℕ = one_if (nat_lt q most) in
    let b : ℕ = one_if (nat_lt (q - 1) most) in
    let before : (k : ℕ) → k < r → g k ≡ a = λ k h.
    let one : q + one_if (nat_lt k r) - 1 ≡ q = omega (arith, ap one_if (lt-ltb k r h)) in
    ap (λ (n : ℕ). one_if (nat_lt n most)) one in
    let after : (k : ℕ) → r ≤ k → g k ≡ b = λ k h.
    let none : q + one_if (nat_lt k r) - 1 ≡ q - 1 = omega (arith, ap one_if (le-ltb k r h)) in
    ap (λ (n : ℕ). one_if (nat_lt n most)) none in
    let rest : sum_below r (λ k. g ((q * s + k) % s)) ≡ r * a =
    sum_below-equal r a (λ k. g ((q * s + k) % s)) (λ k h. ap g (mod-mul-add q s k (omega arith)) ∙ before k h) in
    sum_below-kinds q r s a b g (omega arith) before after ∙ (ap (λ (n : ℕ). q * (r * a + (s - r) * b) + n) rest ∙ sum_of-kinds q r (s - r) a b)
