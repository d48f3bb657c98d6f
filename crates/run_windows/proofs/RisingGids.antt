-- The gaps between numbers that rise.
use Rattle.std.proofs.Common.{◌≡◌, ℕ, zero, suc, ◌+◌, ◌<◌, ◌≤◌, List, length, get_or, inl, inr, refl, ap, ◌∙◌, arith}
use Rattle.std.specs.List.{AllPairs, Contains}
use Rattle.std.proofs.lemmas.Bool.{cases_lt}
use Rattle.std.proofs.lemmas.List.{get_or_default}

-- the first number past the first so many of a list that rises
abbrev pub first_past : List ℕ → ℕ → ℕ
first_past ns zero = 0
first_past ns (suc k) = get_or ns k 0 + 1

-- each is less than the later ones
abbrev pub AreRising : List ℕ → Type 0
AreRising ns = AllPairs (λ (a b : ℕ). a < b) ns

-- the next one is past those before it
pub first_past-le : (ns : List ℕ) (i : ℕ) → AreRising ns → i < length ns → first_past ns i ≤ get_or ns i 0
first_past-le ns zero rising within = omega arith
first_past-le ns (suc k) rising within = let lt = rising k (suc k) 0 (omega arith) within in omega (arith, lt)

-- where one stands that is past the first so many
pub Contains-past : (ns : List ℕ) (i g : ℕ) → AreRising ns → Contains ns g → first_past ns i ≤ g → i < length ns → get_or ns i 0 ≤ g
Contains-past ns zero g rising there le within = elim (cases_lt 0 there.0) [
  | inl lt ↦ let less = rising 0 there.0 0 lt there.1 in let is = get_or_default ns there.0 0 g there.1 ∙ there.2 in omega (arith, less, is)
  | inr first ↦ let is = get_or_default ns there.0 0 g there.1 ∙ there.2 in let same : there.0 ≡ 0 = omega arith in let here = ap (λ k. get_or ns k 0) same in omega (arith, is, here)
]
Contains-past ns (suc k) g rising there le within = elim (cases_lt (suc k) there.0) [
  | inl lt ↦ let less = rising (suc k) there.0 0 lt there.1 in let is = get_or_default ns there.0 0 g there.1 ∙ there.2 in omega (arith, less, is)
  | inr first ↦
      let is = get_or_default ns there.0 0 g there.1 ∙ there.2 in
      elim (cases_lt there.0 (suc k)) [
        | inl before ↦ absurd (elim (cases_lt there.0 k) [
          | inl lt ↦ let less = rising there.0 k 0 lt (omega arith) in omega (arith, less, is, le)
          | inr ge ↦ let same : there.0 ≡ k = omega arith in let here = ap (λ n. get_or ns n 0) same in omega (arith, here, is, le)
        ])
        | inr after ↦ let same : there.0 ≡ suc k = omega arith in let here = ap (λ n. get_or ns n 0) same in omega (arith, is, here)
      ]
]

-- none is past them all
pub Contains-past_all : (ns : List ℕ) (g : ℕ) → AreRising ns → Contains ns g → g < first_past ns (length ns)
Contains-past_all ns g rising there = of (length ns) refl
  where
    of : (n : ℕ) → n ≡ length ns → g < first_past ns n
    of zero is = let within = there.1 in absurd (omega (arith, within, is))
    of (suc k) is =
        let at = get_or_default ns there.0 0 g there.1 ∙ there.2 in
        let within = there.1 in
        elim (cases_lt there.0 k) [
          | inl lt ↦ let less = rising there.0 k 0 lt (omega (arith, is)) in omega (arith, less, at)
          | inr ge ↦ let same : there.0 ≡ k = omega (arith, within, is) in let here = ap (λ n. get_or ns n 0) same in omega (arith, here, at)
        ]
