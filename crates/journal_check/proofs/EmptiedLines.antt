-- Counts of lines after a slice is emptied and a region is left.
use Rattle.std.proofs.Common.{◌≡◌, ℕ, zero, suc, ◌*◌, ◌/◌, ◌==◌, inl, inr, cond, Bool, true, false, Option, None, refl, sym, ap, ◌∙◌, arith}
use Rattle.std.proofs.lemmas.Bool.{cases_Bool, eq-eqb, eqb-true}
use Rattle.cache_core.proofs.laws.OwnSets.{sum_below-is_own}
use Rattle.cache_core.specs.Filled.{places_with}
use Rattle.cache_core.specs.Fills.{Resident}
use Rattle.cache_core.specs.History.{Shape, is_of, is_own, ways_below}
use Rattle.cbm.specs.Masks.{has_way}
use Rattle.lists.proofs.Sums.{sum_below-same, sum_below-zero}
use Rattle.lists.specs.Sums.{one_if, sum_below}
use Rattle.journal_check.specs.Replays.{IsWhole}
use Rattle.journal_check.specs.Slots.{left_place, resident_of}
use Rattle.journal_check.specs.declared.region.Region.{Region}

module _ (m : Shape) (region : Region) where
  -- what a region leaves
  abbrev left : ℕ → ℕ → Option Resident
  left set way = resident_of (left_place m region set way)

  -- a way of the mask has a line of RMID 0
  one_if-left : (set way : ℕ) → one_if (is_of 0 (left set way)) ≡ one_if (has_way region.mask way)
  one_if-left set way = elim (cases_Bool (has_way region.mask way)) [ inl has ↦ rw has refl | inr none ↦ rw none refl ]

  -- and of no other
  one_if-left_other : (r set way : ℕ) → (r == 0) ≡ false → one_if (is_of r (left set way)) ≡ 0
  one_if-left_other r set way other = elim (cases_Bool (has_way region.mask way)) [
    | inl has ↦ rw has (elim (cases_Bool (0 == r)) [
      | inl same ↦ absurd (let wrong : true ≡ false = sym (eq-eqb r 0 (sym (eqb-true 0 r same))) ∙ other in cc)
      | inr apart ↦ rw apart refl
    ])
    | inr none ↦ rw none refl
  ]

  -- the ways of the mask
  sum_below-ways : (set n : ℕ) → sum_below n (λ way. one_if (is_of 0 (left set way))) ≡ ways_below region.mask n
  sum_below-ways set zero = refl
  sum_below-ways set (suc n) = omega (arith, sum_below-ways set n, one_if-left set n)

  -- so many lines of RMID 0, and none of another
  pub places_with-left : (r : ℕ) → IsWhole m → places_with m (is_of r) left ≡ cond (r == 0) (m.sets / m.slices * ways_below region.mask m.ways) 0
  places_with-left r divided = elim (cases_Bool (r == 0)) [
    | inl is ↦
        rw is
        (ap (λ q. places_with m (is_of q) left) (eqb-true r 0 is)
        ∙ (sum_below-same m.sets _ (λ s. cond (is_own m s) (ways_below region.mask m.ways) 0) (λ s less. ap (λ k. cond (is_own m s) k 0) (sum_below-ways s m.ways))
        ∙ sum_below-is_own m (ways_below region.mask m.ways) divided.inside divided.whole))
    | inr other ↦ rw other (sum_below-zero m.sets _ (λ s less. row s (is_own m s) other))
  ]
    where
      row : (s : ℕ) (b : Bool) → (r == 0) ≡ false → cond b (sum_below m.ways (λ way. one_if (is_of r (left s way)))) 0 ≡ 0
      row s true other = sum_below-zero m.ways (λ way. one_if (is_of r (left s way))) (λ way less. one_if-left_other r s way other)
      row s false other = refl

-- where nothing is held no RMID has lines
pub places_with-nothing : (m : Shape) (r : ℕ) (holds : ℕ → ℕ → Option Resident) → ((s w : ℕ) → holds s w ≡ None) → places_with m (is_of r) holds ≡ 0
places_with-nothing m r holds none = sum_below-zero m.sets _ (λ s less. row s (is_own m s))
  where
    row : (s : ℕ) (b : Bool) → cond b (sum_below m.ways (λ way. one_if (is_of r (holds s way)))) 0 ≡ 0
    row s true = sum_below-zero m.ways (λ way. one_if (is_of r (holds s way))) (λ way less. ap (λ (o : Option Resident). one_if (is_of r o)) (none s way))
    row s false = refl
