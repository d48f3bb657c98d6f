-- The members of a set of ids with one more, and without one.
use Rattle.std.proofs.Common.{◌≡◌, ℕ, Bool, true, false, not, cond, ◌||◌, ◌&&◌, eqb, ltb, List, [], ◌∷◌, ◌++◌, refl, ◌∙◌, filter, arith}
use Rattle.std.proofs.lemmas.Bool.Decides.{nat_tests}
use Rattle.std.proofs.lemmas.Bool.{eq-eqb, eqb-true}
use Rattle.hw_ids.specs.Ids.{contains, with_id, without}

-- the members of two sets
contains-append : (other : ℕ) (xs ys : List ℕ) → contains other (xs ++ ys) ≡ (contains other xs || contains other ys)
contains-append other [] ys = refl
contains-append other (x ∷ xs) ys = let rest = contains-append other xs ys in
    elim (eqb x other) as (λ b. (b || contains other (xs ++ ys)) ≡ ((b || contains other xs) || contains other ys)) [ true ↦ refl | false ↦ rest ]

-- the members that pass a test
contains-filter : (p : ℕ → Bool) (other : ℕ) (xs : List ℕ) → contains other (filter p xs) ≡ (p other && contains other xs)
contains-filter p other [] = elim (p other) as (λ b. false ≡ (b && false)) [ true ↦ refl | false ↦ refl ]
contains-filter p other (x ∷ xs) =
    let rest : contains other (filter p xs) ≡ (p other && contains other xs) = contains-filter p other xs in
    elim (eqb x other) as (λ b. eqb x other ≡ b → contains other (cond (p x) (x ∷ filter p xs) (filter p xs)) ≡ (p other && (b || contains other xs))) [
      | true ↦ (λ same. let e : x ≡ other = eqb-true x other same in rw e (elim (p other) as (λ b. p other ≡ b → contains other (cond b (other ∷ filter p xs) (filter p xs)) ≡ (b && true))
          [ true ↦ (λ is. rw (eq-eqb other other refl) refl) | false ↦ (λ is. rest ∙ rw is refl) ] refl))
      | false ↦ (λ other_one. elim (p x) as (λ b. contains other (cond b (x ∷ filter p xs) (filter p xs)) ≡ (p other && contains other xs)) [ true ↦ rw other_one rest | false ↦ rest ])
    ] refl

-- the members but one
pub contains-without : (id other : ℕ) (ids : List ℕ) → contains other (without id ids) ≡ (not (eqb other id) && contains other ids)
contains-without id other ids = contains-filter (λ o. not (eqb o id)) other ids

-- the members and one more
pub contains-with_id : (id other : ℕ) (ids : List ℕ) → contains other (with_id id ids) ≡ (eqb other id || contains other ids)
contains-with_id id other ids =
    contains-append other (filter (λ o. ltb o id) ids) (id ∷ filter (λ o. ltb id o) ids) ∙
    rw (contains-filter (λ o. ltb o id) other ids, contains-filter (λ o. ltb id o) other ids) (cases other id (contains other ids))
  where
    cases : (a b : ℕ) (in_list : Bool) → ((ltb a b && in_list) || (eqb b a || (ltb b a && in_list))) ≡ (eqb a b || in_list)
    cases a b true = grind (arith, nat_tests)
    cases a b false = grind (arith, nat_tests)
