-- Which masks are valid: the tests one by one, and their answer.
use Rattle.std.proofs.Common.{◌≡◌, ◌≢◌, ℕ, ◌/◌, ◌^◌, ◌<◌, Bool, true, false, cond, eqb, ltb, leb, not, ◌&&◌, ◌||◌, ◌⊎◌, List, length, Result, Ok, Err, inl, inr, refl, sym, ap, ◌∙◌, arith}
use Rattle.std.specs.Int.{bit_at}
use Rattle.std.specs.List.{list_any}
use Rattle.std.proofs.lemmas.Bool.{lt-leb, le-leb, le-ltb, ne_eqb, eqb-true, cases_lt}
use Rattle.std.proofs.lemmas.Nat.Bits.{bit_at_above}
use Rattle.lists.proofs.Filters.{length-filter_some, list_any-filter, list_any-filter_none}
use Rattle.cbm.specs.declared.fault.CbmFault.{CbmFault}
use Rattle.cbm.specs.declared.fault.CbmFault.TheVariants.{Range, Gaps, TooFew}
use Rattle.cbm.specs.declared.geometry.Geometry.{Geometry}
use Rattle.cbm.specs.Masks.{has_way, lowest_run, ways_of}
use Rattle.cbm.specs.Validity.{checked, checked_ways, has_gaps, is_out_of_range, is_too_few}
use Rattle.cbm.proofs.laws.Ways.{has_way-from, ways_of-zero}

-- ---- out of range

-- a mask of ways that exist is in range
pub is_out_of_range-below : (g : Geometry) (mask : ℕ) → 0 < mask → mask < 2 ^ 64 → mask < 2 ^ g.len → is_out_of_range g (ways_of mask) ≡ false
unfolding ways_of
is_out_of_range-below g mask pos small fits =
    let w = has_way-from mask 0 small (λ e. absurd (omega arith)) in
    let some : 0 < length (ways_of mask) = length-filter_some (has_way mask) 0 64 w.0 (omega arith) (omega (arith, w.2)) w.3 in
    fits_in (ways_of mask) some (list_any-filter_none (has_way mask) (leb g.len) 0 64 (λ k low high yes_k. in_len k yes_k))
  where
    fits_in : (ways : List ℕ) → 0 < length ways → list_any (leb g.len) ways ≡ false → is_out_of_range g ways ≡ false
    fits_in ways some_way none_past = rw (ne_eqb (length ways) 0 (omega arith)) none_past

    in_len : (k : ℕ) → has_way mask k ≡ true → leb g.len k ≡ false
    in_len k yes_k = elim (cases_lt k g.len) [
      | inl lt ↦ lt-leb g.len k lt
      | inr le ↦ (let none : bit_at mask k ≡ 0 = bit_at_above mask g.len k fits le in absurd (omega (arith, eqb-true (bit_at mask k) 1 yes_k, none)))
    ]

-- no way at all
pub checked-zero : (g : Geometry) (mask : ℕ) → mask ≡ 0 → Err Range ≡ checked g mask
unfolding checked
checked-zero g mask e = ap (checked_ways g mask) (sym (ways_of-zero mask e))

-- a way that does not exist
pub checked-past : (g : Geometry) (mask : ℕ) → mask < 2 ^ 64 → mask / 2 ^ g.len ≢ 0 → Err Range ≡ checked g mask
unfolding checked ways_of
checked-past g mask small ne =
    let w = has_way-from mask g.len small ne in
    out (ways_of mask) (list_any-filter (has_way mask) (leb g.len) 0 64 w.0 (omega arith) (omega (arith, w.2)) w.3 (le-leb g.len w.0 w.1))
  where
    out : (ways : List ℕ) → list_any (leb g.len) ways ≡ true → Err Range ≡ checked_ways g mask ways
    out ways h = either (eqb (length ways) 0) (list_any (leb g.len) ways) h _
      where
        either : (a b : Bool) → b ≡ true → (x : Result ℕ CbmFault) → Err Range ≡ cond (a || b) (Err Range) x
        either true b e x = refl
        either false true e x = refl
        either false false e x = absurd cc

-- ---- gaps

-- a mask that is its lowest run has no gaps
pub has_gaps-whole : (mask run : ℕ) → ways_of run ≡ lowest_run (ways_of mask) → run ≡ mask → has_gaps (ways_of mask) ≡ false
has_gaps-whole mask run run_is same =
    let whole : lowest_run (ways_of mask) ≡ ways_of mask = sym run_is ∙ ap ways_of same in
    le-ltb (length (lowest_run (ways_of mask))) (length (ways_of mask)) (omega (arith, ap length whole))

-- ---- the answer

-- a mask in range is tried for gaps and then for length
pub checked_ways-in_range : (g : Geometry) (mask : ℕ) (ways : List ℕ) → is_out_of_range g ways ≡ false → checked_ways g mask ways ≡ cond (not g.sparse && has_gaps ways) (Err Gaps) (cond (is_too_few g ways) (Err TooFew) (Ok mask))
checked_ways-in_range g mask ways h = rw h refl

-- a mask with nothing missing is valid where its lowest run is long enough
pub checked-whole : (g : Geometry) (mask run : ℕ) → is_out_of_range g (ways_of mask) ≡ false → ways_of run ≡ lowest_run (ways_of mask) → ((g.sparse ≡ false) × (run ≡ mask)) ⊎ (g.sparse ≡ true) → checked g mask ≡ cond (ltb (length (ways_of run)) g.min) (Err TooFew) (Ok mask)
unfolding checked
checked-whole g mask run within run_is whole =
    checked_ways-in_range g mask (ways_of mask) within ∙ ap (λ (b : Bool). cond b (Err Gaps) (cond (is_too_few g (ways_of mask)) (Err TooFew) (Ok mask))) passes ∙ rw run_is refl
  where
    sparse_passes : (b gap : Bool) → b ≡ true → (not b && gap) ≡ false
    sparse_passes true gap e = refl
    sparse_passes false gap e = absurd cc

    whole_passes : (b gap : Bool) → gap ≡ false → (b && gap) ≡ false
    whole_passes true gap e = e
    whole_passes false gap e = refl

    passes : (not g.sparse && has_gaps (ways_of mask)) ≡ false
    passes = elim whole [
      | inl same ↦ whole_passes (not g.sparse) (has_gaps (ways_of mask)) (has_gaps-whole mask run run_is same.1)
      | inr sparse ↦ sparse_passes g.sparse (has_gaps (ways_of mask)) sparse
    ]

-- a mask is checked to be itself
pub checked-ok : (g : Geometry) (bits mask : ℕ) → checked g bits ≡ Ok mask → mask ≡ bits
unfolding checked
checked-ok g bits mask = by (is_out_of_range g (ways_of bits)) (not g.sparse && has_gaps (ways_of bits)) (is_too_few g (ways_of bits))
  where
    by : (a b c : Bool) → cond a (Err Range) (cond b (Err Gaps) (cond c (Err TooFew) (Ok bits))) ≡ Ok mask → mask ≡ bits
    by true b c e = absurd cc
    by false true c e = absurd cc
    by false false true e = absurd cc
    by false false false e = cc

-- so what a check gives is valid
pub checked-checked : (g : Geometry) (bits mask : ℕ) → checked g bits ≡ Ok mask → checked g mask ≡ Ok mask
checked-checked g bits mask e = ap (checked g) (checked-ok g bits mask e) ∙ e
