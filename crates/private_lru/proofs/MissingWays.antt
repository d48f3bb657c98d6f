-- How many ways of a mask are not in a list.
use Rattle.std.proofs.Common.{◌≡◌, ℕ, zero, suc, ◌+◌, ◌<◌, ◌≤◌, true, false, cond, not, ◌&&◌, ◌==◌, List, [], ◌∷◌, length, arith, refl, subst, inl, inr}
use Rattle.std.proofs.lemmas.Bool.{cases_Bool, eqb-true, eqb-false, ne_eqb}
use Rattle.cbm.specs.Masks.{has_way}
use Rattle.cache_core.specs.History.{ways_below}
use Rattle.private_lru.specs.Private.{among}
use Rattle.private_lru.proofs.WayLines.{Descends, eqb-same}

-- how many ways of the mask below a limit are not in the list
abbrev pub missing : ℕ → List ℕ → ℕ → ℕ
missing mask order zero = 0
missing mask order (suc n) = missing mask order n + cond (has_way mask n && not (among n order)) 1 0

-- with no way in the list all are missing
missing-empty : (mask n : ℕ) → missing mask [] n ≡ ways_below mask n
missing-empty mask zero = refl
missing-empty mask (suc n) = let ih : missing mask [] n ≡ ways_below mask n = missing-empty mask n in elim (cases_Bool (has_way mask n)) [ inl k ↦ rw k (omega arith) | inr k ↦ rw k (omega arith) ]

-- a way past the limit changes nothing
missing-past : (mask v : ℕ) (vs : List ℕ) (n : ℕ) → n ≤ v → missing mask (v ∷ vs) n ≡ missing mask vs n
missing-past mask v vs zero h = refl
missing-past mask v vs (suc n) h =
    let ih : missing mask (v ∷ vs) n ≡ missing mask vs n = missing-past mask v vs n (omega arith) in
    let k : (v == n) ≡ false = ne_eqb v n (λ e. omega arith) in rw (k, ih) refl

-- one way more in the list is one less that is missing
missing-cons : (mask v : ℕ) (vs : List ℕ) (n : ℕ) → v < n → has_way mask v ≡ true → among v vs ≡ false → missing mask (v ∷ vs) n + 1 ≡ missing mask vs n
missing-cons mask v vs zero h m a = absurd (omega arith)
missing-cons mask v vs (suc n) h m a = elim (cases_Bool (v == n)) [
  | inl k ↦
      let same : v ≡ n = eqb-true v n k in
      let m' : has_way mask n ≡ true = subst (λ w. has_way mask w ≡ true) same m in
      let a' : among n vs ≡ false = subst (λ w. among w vs ≡ false) same a in
      let ih : missing mask (v ∷ vs) n ≡ missing mask vs n = missing-past mask v vs n (omega arith) in
      rw (k, m', a', ih) (omega arith)
  | inr k ↦
      let ne : v ≡ n → ⊥ = eqb-false v n k in
      let ih : missing mask (v ∷ vs) n + 1 ≡ missing mask vs n = missing-cons mask v vs n (omega arith) m a in
      rw k (omega arith)
]

-- where all are in the list none is missing
pub missing-all : (mask : ℕ) (order : List ℕ) (n : ℕ) → ((v : ℕ) → v < n → has_way mask v ≡ true → among v order ≡ true) → missing mask order n ≡ 0
missing-all mask order zero h = refl
missing-all mask order (suc n) h =
    let ih : missing mask order n ≡ 0 = missing-all mask order n (λ v l m. h v (omega arith) m) in
    elim (cases_Bool (has_way mask n)) [
      | inl k ↦ let a : among n order ≡ true = h n (omega arith) k in rw (k, a, ih) refl
      | inr k ↦ rw (k, ih) refl
    ]

-- the way in front is not among those behind it
among-descending : (age : ℕ → ℕ) (v : ℕ) (vs : List ℕ) → ((w : ℕ) → among w vs ≡ true → age w < age v) → among v vs ≡ false
among-descending age v vs d = elim (cases_Bool (among v vs)) [ inl k ↦ let h : age v < age v = d v k in absurd (omega arith) | inr k ↦ k ]

-- the ordered ways and those that are missing are all the ways of the mask
pub length-order : (mask n : ℕ) (age : ℕ → ℕ) (order : List ℕ) → ((v : ℕ) → among v order ≡ true → (v < n) × (has_way mask v ≡ true)) → Descends age order → length order + missing mask order n ≡ ways_below mask n
length-order mask n age [] inside d = rw (missing-empty mask n) (omega arith)
length-order mask n age (v ∷ vs) inside d =
    let t : (v == v) ≡ true = eqb-same v in
    let first = inside v (rw t refl) in
    let ih : length vs + missing mask vs n ≡ ways_below mask n = length-order mask n age vs (λ w a. inside w (elim (cases_Bool (v == w)) [ inl k ↦ rw k refl | inr k ↦ rw k a ])) d.1 in
    let one : missing mask (v ∷ vs) n + 1 ≡ missing mask vs n = missing-cons mask v vs n first.0 first.1 (among-descending age v vs d.0) in
    omega arith
