-- Passes that have the numbers of their places.
use Rattle.std.proofs.Common.{◌≡◌, ℕ, suc, ◌+◌, ◌<◌, ◌≤◌, ◌==◌, Bool, cond, true, false, inl, inr, List, [], ◌∷◌, length, refl, ap, ◌∙◌, arith}
use Rattle.std.specs.Prelude.{count_by, slice_index_or}
use Rattle.std.proofs.lemmas.Bool.{cases_lt, eq-eqb, ne_eqb}
use Rattle.std.proofs.lemmas.List.Sums.{sum_by-cons}
use Rattle.seen_journal.specs.Passes.{PassValue}

one_or_none : {a b : Bool} → a ≡ b → cond a 1 0 ≡ cond {A = ℕ} b 1 0
one_or_none same = ap (λ b. cond {A = ℕ} b 1 0) same

module _ {E : Type 0} where
  -- from a number on
  abbrev pub AreNumbered : ℕ → List (PassValue E) → Type 0
  AreNumbered k xs = (t : ℕ) (d : PassValue E) → t < length xs → (slice_index_or xs t d).number ≡ k + t

  numbered_rest : (k : ℕ) (x : PassValue E) (xs : List (PassValue E)) → AreNumbered k (x ∷ xs) → AreNumbered (k + 1) xs
  numbered_rest k x xs numbered t d within = numbered (suc t) d (omega (arith, within)) ∙ omega arith

  counted : (i : ℕ) (x : PassValue E) (xs : List (PassValue E)) → count_by (λ (p : PassValue E). p.number == i) (x ∷ xs) ≡ cond (x.number == i) 1 0 + count_by (λ (p : PassValue E). p.number == i) xs
  counted i x xs = sum_by-cons (λ (p : PassValue E). cond (p.number == i) 1 0) x xs

  -- none has a smaller one
  count_by-before : (k i : ℕ) (xs : List (PassValue E)) → AreNumbered k xs → i < k → count_by (λ (p : PassValue E). p.number == i) xs ≡ 0
  count_by-before k i [] numbered before = refl
  count_by-before k i (x ∷ xs) numbered before =
      let other : (x.number == i) ≡ false = ne_eqb x.number i (λ same. absurd (omega (arith, same, before, numbered 0 x (omega arith)))) in
      omega (arith, counted i x xs, one_or_none other, count_by-before (k + 1) i xs (numbered_rest k x xs numbered) (omega (arith, before)))

  -- and one has each from there on
  pub count_by-numbered : (k i : ℕ) (xs : List (PassValue E)) → AreNumbered k xs → k ≤ i → i < k + length xs → count_by (λ (p : PassValue E). p.number == i) xs ≡ 1
  count_by-numbered k i [] numbered from to = absurd (omega (arith, from, to))
  count_by-numbered k i (x ∷ xs) numbered from to = elim (cases_lt k i) [
    | inl after ↦
        let other : (x.number == i) ≡ false = ne_eqb x.number i (λ same. absurd (omega (arith, same, after, numbered 0 x (omega arith)))) in
        omega (arith, counted i x xs, one_or_none other, count_by-numbered (k + 1) i xs (numbered_rest k x xs numbered) (omega (arith, after)) (omega (arith, to)))
    | inr here ↦
        let own : (x.number == i) ≡ true = eq-eqb x.number i (omega (arith, from, here, numbered 0 x (omega arith))) in
        let rest : count_by (λ (p : PassValue E). p.number == i) xs ≡ 0 = count_by-before (k + 1) i xs (numbered_rest k x xs numbered) (omega (arith, here)) in
        omega (arith, counted i x xs, one_or_none own, rest)
  ]
