-- The victim of the policy is the one that a legal history asks for.
use Rattle.std.proofs.Common.{◌≡◌, ℕ, zero, suc, ◌+◌, ◌<◌, ◌≤◌, Bool, true, false, cond, ◌==◌, nat_lt, List, [], ◌∷◌, length, Option, Some, None, IsSome, refl, sym, ◌∙◌, ap, inl, inr, arith}
use Rattle.std.specs.Prelude.{filter, find, unwrap_or}
use Rattle.std.specs.List.{range_with_len}
use Rattle.std.proofs.lemmas.Bool.{cases_Bool, cases_lt, cases_order, eqb-true, false≢true, true≢false, ltb-true, ltb-false}
use Rattle.std.proofs.lemmas.Option.{none-some, same_Some}
use Rattle.cbm.specs.Masks.{has_way}
use Rattle.cache_core.specs.Fills.{Resident, IsVictim}
use Rattle.policy_law.specs.Policies.{CacheSet, has_way as has, is_empty, fill_way}
use Rattle.policy_law.specs.KnownPolicies.{Stamps, least_way, first_way, lru}
use Rattle.policy_law.proofs.laws.Places.{has_way-find, find-none}
use Rattle.policy_law.proofs.laws.Masks.{has_way-first_way, has_way-least_way}
use Rattle.policy_law.specs.SliceSets.{ways_in}
use Rattle.policy_law.proofs.Fills.{has-ways_in, ways_in-has}
use Rattle.policy_law.proofs.SetPlaces.{IsSet, IsSome-resident, is_empty-resident}

-- one of two keys, the lesser
key-cond : (key : ℕ → ℕ) (best w : ℕ) → (key (cond (nat_lt (key w) (key best)) w best) ≤ key best) × (key (cond (nat_lt (key w) (key best)) w best) ≤ key w)
key-cond key best w = elim (cases_Bool (nat_lt (key w) (key best))) [
  | inl k ↦ let l : key w < key best = ltb-true (key w) (key best) k in rw k (omega arith, omega arith)
  | inr k ↦ let l : key best ≤ key w = ltb-false (key w) (key best) k in rw k (omega arith, omega arith)
]

-- no key is less than the best's and the ways'
least_way-best : (key : ℕ → ℕ) (best : ℕ) (ways : List ℕ) → key (least_way key best ways) ≤ key best
least_way-best key best [] = omega arith
least_way-best key best (w ∷ ws) =
    let rest : key (least_way key (cond (nat_lt (key w) (key best)) w best) ws) ≤ key (cond (nat_lt (key w) (key best)) w best) = least_way-best key (cond (nat_lt (key w) (key best)) w best) ws in
    let here : key (cond (nat_lt (key w) (key best)) w best) ≤ key best = (key-cond key best w).0 in
    omega arith

least_way-le : (key : ℕ → ℕ) (best v : ℕ) (ways : List ℕ) → has ways v ≡ true → key (least_way key best ways) ≤ key v
least_way-le key best v [] h = absurd (false≢true h)
least_way-le key best v (w ∷ ws) h = elim (cases_Bool (w == v)) [
  | inl k ↦
      let rest : key (least_way key (cond (nat_lt (key w) (key best)) w best) ws) ≤ key (cond (nat_lt (key w) (key best)) w best) = least_way-best key (cond (nat_lt (key w) (key best)) w best) ws in
      let here : key (cond (nat_lt (key w) (key best)) w best) ≤ key w = (key-cond key best w).1 in
      let same : key w ≡ key v = ap key (eqb-true w v k) in
      omega arith
  | inr k ↦ let rest : has ws v ≡ true = rw k at h in least_way-le key (cond (nat_lt (key w) (key best)) w best) v ws rest
]

-- what is found passes
find-passes : (p : ℕ → Bool) (ways : List ℕ) (v : ℕ) → find p ways ≡ Some v → p v ≡ true
find-passes p [] v e = absurd (none-some v e)
find-passes p (w ∷ ws) v e = elim (cases_Bool (p w)) [
  | inl k ↦ let there : Some w ≡ Some v = rw k at e in ap p (sym (same_Some w v there)) ∙ k
  | inr k ↦ let rest : find p ws ≡ Some v = rw k at e in find-passes p ws v rest
]

-- and those below it do not
find-first : (p h : ℕ → Bool) (a n v u : ℕ) → find p (filter h (range_with_len a n)) ≡ Some v → a ≤ u → u < v → h u ≡ true → p u ≡ false
find-first p h a zero v u e low less has = absurd (none-some v e)
find-first p h a (suc n) v u e low less has = elim (cases_Bool (h a)) [
  | inl k ↦ elim (cases_Bool (p a)) [
    | inl t ↦ let there : Some a ≡ Some v = rw t at (rw k at e) in let same : a ≡ v = same_Some a v there in absurd (omega arith)
    | inr t ↦
        let rest : find p (filter h (range_with_len (a + 1) n)) ≡ Some v = rw t at (rw k at e) in
        elim (cases_lt a u) [
          | inl l ↦ find-first p h (a + 1) n v u rest (omega arith) less has
          | inr l ↦ let same : a ≡ u = omega arith in ap p (sym same) ∙ t
        ]
  ]
  | inr k ↦
      let rest : find p (filter h (range_with_len (a + 1) n)) ≡ Some v = rw k at e in
      elim (cases_lt a u) [
        | inl l ↦ find-first p h (a + 1) n v u rest (omega arith) less has
        | inr l ↦ let same : a ≡ u = omega arith in absurd (true≢false (sym has ∙ (ap h (sym same) ∙ k)))
      ]
]

-- the way with the least stamp
abbrev oldest_way : ℕ → ℕ → CacheSet Stamps → ℕ
oldest_way n mask c = least_way c.state.stamp (first_way (ways_in n mask)) (ways_in n mask)

-- the victim, by what is found empty
IsVictim-found : (n mask : ℕ) (residents : ℕ → Option Resident) (age : ℕ → ℕ) (c : CacheSet Stamps) → IsSet n residents age c → 0 < length (ways_in n mask) → (o : Option ℕ) → find (is_empty c.places) (ways_in n mask) ≡ o
    → IsVictim n mask residents age (unwrap_or o (oldest_way n mask c))
IsVictim-found n mask residents age c is some (Some v) e =
    let inside = ways_in-has n mask v (has_way-find (is_empty c.places) (ways_in n mask) v e) in
    let empty : is_empty c.places v ≡ true = find-passes (is_empty c.places) (ways_in n mask) v e in
    let full : IsSome (residents v) → ⊥ = λ h. true≢false (sym empty ∙ is_empty-resident n v residents age c is inside.0 (residents v) refl h) in
    record {
      within = inside.0;
      allowed = inside.1;
      lowest_empty = λ none u less h. IsSome-resident n u residents age c is (find-first (is_empty c.places) (has_way mask) 0 n v u e (omega arith) less h) (residents u) refl;
      none_empty = λ h u l k. absurd (full h);
      oldest = λ h u l k. absurd (full h);
      lowest = λ h u l k. absurd (full h);
    }
IsVictim-found n mask residents age c is some None e =
    let mine : has (ways_in n mask) (oldest_way n mask c) ≡ true = has_way-least_way (ways_in n mask) c.state.stamp (first_way (ways_in n mask)) (ways_in n mask) (has_way-first_way (ways_in n mask) some) (λ w h. h) in
    let inside = ways_in-has n mask (oldest_way n mask c) mine in
    let full : (u : ℕ) → u < n → has_way mask u ≡ true → is_empty c.places u ≡ false = λ u l h. find-none (is_empty c.places) (ways_in n mask) u e (has-ways_in n mask u l h) in
    let oldest : (u : ℕ) → u < n → has_way mask u ≡ true → age (oldest_way n mask c) ≤ age u = λ u l h.
    let le : c.state.stamp (oldest_way n mask c) ≤ c.state.stamp u = least_way-le c.state.stamp (first_way (ways_in n mask)) u (ways_in n mask) (has-ways_in n mask u l h) in
    elim (cases_lt (age u) (age (oldest_way n mask c))) [
      | inl less ↦
          let lower : c.state.stamp u < c.state.stamp (oldest_way n mask c) = is.older u (oldest_way n mask c) (full u l h) (full (oldest_way n mask c) inside.0 inside.1) less in
          absurd (omega arith)
      | inr more ↦ more
    ] in
    record {
      within = inside.0;
      allowed = inside.1;
      lowest_empty = λ none u less h. IsSome-resident n u residents age c is (full u (let w : oldest_way n mask c < n = inside.0 in omega arith) h) (residents u) refl;
      none_empty = λ _ u l h. IsSome-resident n u residents age c is (full u l h) (residents u) refl;
      oldest = λ _ u l h. oldest u l h;
      lowest = λ _ u less h.
          let l : u < n = let w : oldest_way n mask c < n = inside.0 in omega arith in
          let le : age (oldest_way n mask c) ≤ age u = oldest u l h in
          elim (cases_order (age (oldest_way n mask c)) (age u)) [
            | inl same ↦
                let lower : c.state.stamp u < c.state.stamp (oldest_way n mask c) = is.tied u (oldest_way n mask c) (full u l h) (full (oldest_way n mask c) inside.0 inside.1) (sym same) less in
                let stamps : c.state.stamp (oldest_way n mask c) ≤ c.state.stamp u = least_way-le c.state.stamp (first_way (ways_in n mask)) u (ways_in n mask) (has-ways_in n mask u l h) in
                absurd (omega arith)
            | inr k ↦ elim k [ inl lt ↦ lt | inr gt ↦ absurd (omega arith) ]
          ];
    }

-- the way that a fill takes
pub IsVictim-fill_way : (n mask : ℕ) (residents : ℕ → Option Resident) (age : ℕ → ℕ) (c : CacheSet Stamps) → IsSet n residents age c → 0 < length (ways_in n mask) → IsVictim n mask residents age (fill_way lru (ways_in n mask) c)
IsVictim-fill_way n mask residents age c is some = IsVictim-found n mask residents age c is some (find (is_empty c.places) (ways_in n mask)) refl
