-- Where the looks of a (domain, RMID) stand among all.
use Rattle.std.proofs.Common.{◌≡◌, ℕ, zero, suc, ◌+◌, ◌*◌, ◌<◌, inl, inr, List, [], ◌∷◌, ◌++◌, length, map, refl, sym, ap, ◌∙◌, subst, arith}
use Rattle.std.specs.List.{range_with_len}
use Rattle.std.proofs.lemmas.Bool.{cases_lt}
use Rattle.std.proofs.lemmas.List.{length_push}
use Rattle.std.proofs.lemmas.List.FromFn.{map-range_with_len_more}
use Rattle.std.proofs.lemmas.Option.{same_Some}
use Rattle.machine.specs.declared.parameters.Parameters.{Parameters}
use Rattle.run_law.specs.Journals.{At}
use Rattle.machine.specs.Slices.{slice_number}
use Rattle.run_law.proofs.laws.Positions.{At-last, At-append_front}
use Rattle.run_law.specs.FoundLooks.{look_pairs, pairs_of}

-- the x-th of the pairs for the q-th (domain, RMID)
pub length_mapped : (f : ℕ → ℕ × ℕ) (n : ℕ) → length (map f (range_with_len 0 n)) ≡ n
length_mapped f zero = refl
length_mapped f (suc n) =
    let next : suc n ≡ n + 1 = omega arith in
    ap (λ k. length (map f (range_with_len 0 k))) next ∙ (ap length (map-range_with_len_more f 0 n n (omega arith)) ∙ (length_push (map f (range_with_len 0 n)) (f n) ∙ (ap (λ k. k + 1) (length_mapped f n) ∙ sym next)))

-- an element of a mapped range
pub at_mapped : (f : ℕ → ℕ × ℕ) (n x : ℕ) → x < n → At (map f (range_with_len 0 n)) x (f x)
at_mapped f zero x below = absurd (omega arith)
at_mapped f (suc n) x below =
    let next : suc n ≡ n + 1 = omega arith in
    let more : map f (range_with_len 0 (suc n)) ≡ map f (range_with_len 0 n) ++ f n ∷ [] = ap (λ k. map f (range_with_len 0 k)) next ∙ map-range_with_len_more f 0 n n (omega arith) in
    subst (λ xs. At xs x (f x)) (sym more)
    (elim (cases_lt x n) [
      | inl before ↦ At-append_front (map f (range_with_len 0 n)) (f n ∷ []) x (f x) (at_mapped f n x before)
      | inr past ↦
          let last : length (map f (range_with_len 0 n)) ≡ x = length_mapped f n ∙ omega (arith, below, past) in
          let is : n ≡ x = omega (arith, below, past) in
          subst (λ k. At (map f (range_with_len 0 n) ++ f n ∷ []) k (f x)) last (subst (λ y. At (map f (range_with_len 0 n) ++ f n ∷ []) (length (map f (range_with_len 0 n))) (f y)) is (At-last (map f (range_with_len 0 n)) (f n)))
    ])

-- an element of the second part
pair_behind : (xs ys : List (ℕ × ℕ)) (k : ℕ) (pair : ℕ × ℕ) → At ys k pair → At (xs ++ ys) (length xs + k) pair
pair_behind [] ys k pair at = let same : 0 + k ≡ k = omega arith in subst (λ r. At ys r pair) (sym same) at
pair_behind (x ∷ xs) ys k pair at = let same : suc (length xs + k) ≡ length (x ∷ xs) + k = omega arith in subst (λ r. At (x ∷ xs ++ ys) r pair) same (pair_behind xs ys k pair at)

-- the x-th of the pairs for the q-th (domain, RMID)
pub pair_at : (m : Parameters) (needs : List (ℕ × ℕ)) (q x : ℕ) (need : ℕ × ℕ) → At needs q need → x < m.slices → At (look_pairs m needs) (q * m.slices + x) (slice_number m need.0 x, need.1)
pair_at m [] q x need at below = absurd cc
pair_at m (first ∷ needs) zero x need at below =
    let same : first ≡ need = same_Some first need at in
    let f : ℕ → ℕ × ℕ = λ y. (slice_number m first.0 y, first.1) in
    let here : x ≡ zero * m.slices + x = omega arith in
    subst (λ (y : ℕ × ℕ). At (look_pairs m (first ∷ needs)) (zero * m.slices + x) (slice_number m y.0 x, y.1)) same
    (subst (λ r. At (look_pairs m (first ∷ needs)) r (f x)) here (At-append_front (pairs_of m first) (look_pairs m needs) x (f x) (at_mapped f m.slices x below)))
pair_at m (first ∷ needs) (suc q) x need at below =
    let f : ℕ → ℕ × ℕ = λ y. (slice_number m first.0 y, first.1) in
    let product : suc q * m.slices ≡ q * m.slices + m.slices = omega arith in
    let here : length (pairs_of m first) + (q * m.slices + x) ≡ suc q * m.slices + x = omega (arith, length_mapped f m.slices, product) in
    subst (λ r. At (look_pairs m (first ∷ needs)) r (slice_number m need.0 x, need.1)) here
    (pair_behind (pairs_of m first) (look_pairs m needs) (q * m.slices + x) (slice_number m need.0 x, need.1) (pair_at m needs q x need at below))
