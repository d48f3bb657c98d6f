-- The way that a fill takes in a slice is the one that it takes under the policy.
use Rattle.std.proofs.Common.{◌≡◌, ◌⊎◌, ℕ, zero, suc, ◌+◌, ◌<◌, ◌≤◌, Bool, true, false, ◌==◌, nat_lt, List, [], ◌∷◌, length, Some, None, refl, sym, ◌∙◌, ap, subst, inl, inr, arith}
use Rattle.std.specs.Prelude.{filter, find}
use Rattle.std.specs.List.{range_with_len}
use Rattle.std.proofs.lemmas.Bool.{cases_Bool, cases_lt, eqb-true, eq-eqb, false≢true, true≢false, lt-ltb, le-ltb, ltb-true}
use Rattle.cbm.specs.Masks.{has_way}
use Rattle.policy_law.specs.Policies.{has_way as has}
use Rattle.policy_law.specs.KnownPolicies.{least_way, some_or}
use Rattle.policy_law.proofs.laws.Masks.{has_way-front, has_way-rest}
use Rattle.lists.proofs.Filters.{list_any-filter_true, list_any-filter}
use Rattle.policy_law.specs.SliceSets.{ways_in}

-- a way of the mask that the cache has
pub has-ways_in : (ways mask w : ℕ) → w < ways → has_way mask w ≡ true → has (ways_in ways mask) w ≡ true
has-ways_in ways mask w within h = list_any-filter (has_way mask) (λ (v : ℕ). v == w) 0 ways w (omega arith) (omega arith) h (eq-eqb w w refl)

-- and no other
pub ways_in-has : (ways mask w : ℕ) → has (ways_in ways mask) w ≡ true → (w < ways) × (has_way mask w ≡ true)
ways_in-has ways mask w h =
    let r = list_any-filter_true (has_way mask) (λ (v : ℕ). v == w) 0 ways h in
    let same : r.0 ≡ w = eqb-true r.0 w r.3 in
    let below : r.0 < ways = omega (arith, r.1) in
    subst (λ v. (v < ways) × (has_way mask v ≡ true)) same (below, r.2)

-- the first that passes
pub find-range : (p h : ℕ → Bool) (a n w : ℕ) → a ≤ w → w < a + n → h w ≡ true → p w ≡ true → ((v : ℕ) → a ≤ v → v < w → h v ≡ true → p v ≡ false) → find p (filter h (range_with_len a n)) ≡ Some w
find-range p h a zero w low high has passes first = absurd (omega arith)
find-range p h a (suc n) w low high has passes first = elim (cases_lt a w) [
  | inl less ↦
      let rest : find p (filter h (range_with_len (a + 1) n)) ≡ Some w = find-range p h (a + 1) n w (omega arith) (omega arith) has passes (λ v l k. first v (omega arith) k) in
      elim (cases_Bool (h a)) [
        | inl t ↦ let fails : p a ≡ false = first a (omega arith) less t in rw t (rw fails rest)
        | inr t ↦ rw t rest
      ]
  | inr more ↦
      let same : a ≡ w = omega arith in
      let here : h a ≡ true = ap h same ∙ has in
      let there : p a ≡ true = ap p same ∙ passes in
      rw here (rw there (ap (λ (v : ℕ). Some v) same))
]

-- none passes
pub find-range_none : (p : ℕ → Bool) (ways : List ℕ) → ((v : ℕ) → has ways v ≡ true → p v ≡ false) → find p ways ≡ None
find-range_none p [] none = refl
find-range_none p (w ∷ ws) none =
    let here : p w ≡ false = none w (has_way-front w ws) in
    rw here (find-range_none p ws (λ v h. none v (has_way-rest w v ws h)))

-- the way whose key is less than all others' is the least
pub least_way-is : (key : ℕ → ℕ) (way best : ℕ) (ways : List ℕ) → ((w : ℕ) → has ways w ≡ true → (w ≡ way → ⊥) → key way < key w) → (has ways way ≡ true) ⊎ (best ≡ way) → (key way < key best) ⊎ (best ≡ way) → least_way key best ways ≡ way
least_way-is key way best [] less among ahead = elim among [ inl h ↦ absurd (false≢true h) | inr is ↦ is ]
least_way-is key way best (w ∷ ws) less among ahead =
    let rest : (v : ℕ) → has ws v ≡ true → (v ≡ way → ⊥) → key way < key v = λ v h ne. less v (has_way-rest w v ws h) ne in
    elim (cases_Bool (w == way)) [
      | inl k ↦
          let same : w ≡ way = eqb-true w way k in
          elim ahead [
            | inl lower ↦
                let test : nat_lt (key w) (key best) ≡ true = lt-ltb (key w) (key best) (subst (λ v. key v < key best) (sym same) lower) in
                rw test (least_way-is key way w ws rest (inr same) (inr same))
            | inr is ↦
                let test : nat_lt (key w) (key best) ≡ false = le-ltb (key w) (key best) (subst (λ v. key v ≤ key w) (sym (is ∙ sym same)) (omega arith)) in
                rw test (least_way-is key way best ws rest (inr is) (inr is))
          ]
      | inr k ↦
          let differs : w ≡ way → ⊥ = λ e. true≢false (sym (eq-eqb w way e) ∙ k) in
          let lower : key way < key w = less w (has_way-front w ws) differs in
          let among_rest : (has ws way ≡ true) ⊎ (best ≡ way) = elim among [ inl h ↦ inl (rw k at h) | inr is ↦ inr is ] in
          elim (cases_Bool (nat_lt (key w) (key best))) [
            | inl t ↦ elim ahead [
              | inl l ↦ rw t (least_way-is key way w ws rest (elim among_rest [ inl h ↦ inl h | inr is ↦ absurd (let f : key best ≡ key way = ap key is in omega arith) ]) (inl lower))
              | inr is ↦ absurd (let f : key best ≡ key way = ap key is in let g : key w < key best = ltb-true (key w) (key best) t in omega arith)
            ]
            | inr t ↦ rw t (least_way-is key way best ws rest among_rest ahead)
          ]
    ]

-- a mask of which one way is in the cache has some
pub length-ways : (ways : List ℕ) (w : ℕ) → has ways w ≡ true → 0 < length ways
length-ways [] w h = absurd (false≢true h)
length-ways (v ∷ vs) w h = omega arith

-- a mask with a way, or else another
pub some_or-some : (ways others : List ℕ) → 0 < length ways → some_or ways others ≡ ways
some_or-some [] others some = absurd (omega arith)
some_or-some (w ∷ ws) others some = refl
