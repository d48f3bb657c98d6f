-- No count is needed twice: rows of pairs, each row of one of distinct things.
use Rattle.std.proofs.Common.{◌≡◌, ℕ, suc, ◌+◌, ◌-◌, ◌*◌, ◌<◌, inl, inr, List, [], ◌∷◌, length, map, refl, sym, ap, ◌∙◌, subst, arith}
use Rattle.std.specs.List.{flat_map, range_with_len}
use Rattle.std.proofs.lemmas.Option.{slice_get_within, same_Some}
use Rattle.machine.specs.declared.parameters.Parameters.{Parameters}
use Rattle.run_law.specs.Journals.{At}
use Rattle.machine.specs.Slices.{domain_in, slice_number}
use Rattle.run_law.proofs.laws.LookPositions.{at_mapped, length_mapped}
use Rattle.run_law.proofs.laws.SliceDomains.{of_domain}
use Rattle.run_law.proofs.laws.Positions.{At-append}
use Rattle.run_law.specs.FoundLooks.{AreDistinct, look_pairs}

-- an element of rows is one of a row
row_at : {A : Type 0} (f : A → ℕ → ℕ × ℕ) (n : ℕ) (xs : List A) (r : ℕ) (pair : ℕ × ℕ) → At (flat_map (λ a. map (f a) (range_with_len 0 n)) xs) r pair
    → (q : ℕ) × (x : ℕ) × (a : A) × At xs q a × (x < n) × (r ≡ q * n + x) × (pair ≡ f a x)
row_at f n [] r pair at = absurd cc
row_at f n (first ∷ xs) r pair at =
    elim (At-append (map (f first) (range_with_len 0 n)) (flat_map (λ a. map (f a) (range_with_len 0 n)) xs) r pair at) [
      | inl front ↦
          let within : r < n = omega (arith, slice_get_within (map (f first) (range_with_len 0 n)) r pair front, length_mapped (f first) n) in
          (0, r, first, refl, within, omega arith, same_Some pair (f first r) (sym front ∙ at_mapped (f first) n r within))
      | inr back ↦
          let (q, x, a, there, below, is, same) = row_at f n xs (r - length (map (f first) (range_with_len 0 n))) pair back.1 in
          let product : suc q * n ≡ q * n + n = omega arith in
          (suc q, x, a, there, below, omega (arith, back.0, is, product, length_mapped (f first) n), same)
    ]

-- the pairs of distinct rows are distinct
pub distinct_rows : {A : Type 0} (f : A → ℕ → ℕ × ℕ) (n : ℕ) (xs : List A) → ((a b : A) (x y : ℕ) → x < n → y < n → f a x ≡ f b y → (a ≡ b) × (x ≡ y)) → AreDistinct xs
    → AreDistinct (flat_map (λ a. map (f a) (range_with_len 0 n)) xs)
distinct_rows f n xs apart distinct r s pair at there =
    let (q, x, a, is_a, below, r_is, here) = row_at f n xs r pair at in
    let (o, y, b, is_b, within, s_is, also) = row_at f n xs s pair there in
    let same = apart a b x y below within (sym here ∙ also) in
    let row : q ≡ o = distinct q o a is_a (subst (λ z. At xs o z) (sym same.0) is_b) in
    omega (arith, r_is, s_is, same.1, ap (λ z. z * n) row)

-- where no (domain, RMID) is needed twice, no pair is looked at twice
pub distinct_pairs : (m : Parameters) (needs : List (ℕ × ℕ)) → AreDistinct needs → AreDistinct (look_pairs m needs)
distinct_pairs m needs distinct =
    distinct_rows (λ need x. (slice_number m need.0 x, need.1)) m.slices needs
    (λ a b x y below within same.
    let slices : slice_number m a.0 x ≡ slice_number m b.0 y = ap (λ (p : ℕ × ℕ). p.0) same in
    let rmids : a.1 ≡ b.1 = ap (λ (p : ℕ × ℕ). p.1) same in
    let some : 0 < m.slices = omega (arith, below) in
    let first : domain_in m (slice_number m a.0 x) ≡ a.0 = of_domain m a.0 (slice_number m a.0 x) some (omega arith) (omega (arith, below)) in
    let second : domain_in m (slice_number m b.0 y) ≡ b.0 = of_domain m b.0 (slice_number m b.0 y) some (omega arith) (omega (arith, within)) in
    let domain : a.0 ≡ b.0 = sym first ∙ (ap (domain_in m) slices ∙ second) in
    (ap (λ d. (d, a.1)) domain ∙ ap (λ p. (b.0, p)) rmids, omega (arith, slices, ap (λ d. d * m.slices) domain))) distinct
