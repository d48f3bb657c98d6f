-- The place of a group among groups that rise.
use Rattle.std.proofs.Common.{◌≡◌, ℕ, zero, suc, ◌<◌, ◌≤◌, true, false, eqb, ltb, List, [], ◌∷◌, length, get_or, inl, inr, refl, subst, ap, ◌∙◌, arith}
use Rattle.std.specs.Prelude.{◌&&◌, nat_le}
use Rattle.std.specs.List.{AllPairs, AllWithin}
use Rattle.std.specs.List.Sorted.{IsPartitionedBy}
use Rattle.std.proofs.lemmas.Bool.{cases_eq, cases_lt, eq-eqb, lt-ltb, ltb-true, ne_eqb}
use Rattle.std.proofs.lemmas.List.{get_or-map, get_or_default, length-map}
use Rattle.private_lru.specs.Ends.{RiseByGroup}
use Rattle.private_lru.specs.declared.exclusive_span.ExclusiveSpan.{ExclusiveSpan}

-- what stands past the end of a list of these
abbrev pub no_stay : ExclusiveSpan
no_stay = record { gid = record { 0 = 0 }; mask = 0; last = 0 }

-- two numbers that rise
pub AllPairs-two : (a b : ℕ) → a < b → AllPairs (λ (x y : ℕ). x < y) (a ∷ b ∷ [])
AllPairs-two a b less zero zero d lt within = absurd (omega (arith, lt))
AllPairs-two a b less zero (suc zero) d lt within = less
AllPairs-two a b less zero (suc (suc j)) d lt within = absurd (omega (arith, within))
AllPairs-two a b less (suc i) zero d lt within = absurd (omega (arith, lt))
AllPairs-two a b less (suc i) (suc zero) d lt within = absurd (omega (arith, lt))
AllPairs-two a b less (suc i) (suc (suc j)) d lt within = absurd (omega (arith, within))

module _ (stays : List ExclusiveSpan) (rising : RiseByGroup stays) where
  -- one group is less than a later one
  gid-lt : (i j : ℕ) (d : ExclusiveSpan) → i < j → j < length stays → (get_or stays i d).gid.0 < (get_or stays j d).gid.0
  gid-lt i j d lt within =
      let len = length-map stays (λ (y : ExclusiveSpan). y.gid.0) in
      let low = get_or-map (λ (y : ExclusiveSpan). y.gid.0) stays i d 0 (omega (arith, lt, within)) in
      let high = get_or-map (λ (y : ExclusiveSpan). y.gid.0) stays j d 0 within in
      let rises = rising i j 0 lt (omega (arith, within, len)) in
      omega (arith, low, high, rises)

  -- those made before a group come first
  pub IsPartitionedBy-gid : (g : ℕ) → IsPartitionedBy (λ (s : ExclusiveSpan). ltb s.gid.0 g) stays
  IsPartitionedBy-gid g = λ a b d le within before. elim (cases_lt a b) [
    | inl lt ↦
        let rises = gid-lt a b d lt within in
        let is = ltb-true (get_or stays b d).gid.0 g before in
        lt-ltb (get_or stays a d).gid.0 g (omega (arith, rises, is))
    | inr ge ↦ let same : b ≡ a = omega (arith, le, ge) in subst (λ k. ltb (get_or stays k d).gid.0 g ≡ true) same before
  ]

  module _ (g place high : ℕ) (s : ExclusiveSpan) (within : place < length stays) (is : s ≡ get_or stays place s) (before : AllWithin (λ (y : ExclusiveSpan). y.gid.0 < g) stays 0 place) (rest : AllWithin (λ (y : ExclusiveSpan). g ≤ y.gid.0) stays place (length stays)) where
    -- the group stands at its place alone
    pub place-only : (j : ℕ) (d : ExclusiveSpan) → j < length stays → (eqb place j && (eqb g s.gid.0 && nat_le high s.last)) ≡ (eqb g (get_or stays j d).gid.0 && nat_le high (get_or stays j d).last)
    place-only j d inside = elim (cases_eq place j) [
      | inl same ↦
          let here : s ≡ get_or stays j d = is ∙ (ap (λ k. get_or stays k s) same ∙ get_or_default stays j s d inside) in
          rw (eq-eqb place j same) (ap (λ (y : ExclusiveSpan). eqb g y.gid.0 && nat_le high y.last) here)
      | inr apart ↦
          let other : eqb g (get_or stays j d).gid.0 ≡ false = ne_eqb g (get_or stays j d).gid.0 (λ is_g. elim (cases_lt j place) [
            | inl lt ↦ let less = before j d (omega arith) lt in omega (arith, less, is_g)
            | inr ge ↦
                let lt : place < j = omega (arith, ge, apart) in
                let rises = gid-lt place j d lt inside in
                let low = rest place d (omega arith) within in
                omega (arith, rises, low, is_g)
          ]) in
          rw (ne_eqb place j apart, other) refl
    ]
