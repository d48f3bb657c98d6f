-- The mask of every way.
use Rattle.std.proofs.Common.{◌≡◌, ℕ, ◌+◌, ◌-◌, ◌^◌, ◌<◌, ◌≤◌, ◌⊎◌, Bool, true, false, cond, List, [], ◌++◌, length, Ok, Err, inl, inr, refl, sym, ap, ◌∙◌, arith, append-nil}
use Rattle.std.specs.List.{range_with_len}
use Rattle.std.proofs.lemmas.Bool.{le-ltb}
use Rattle.std.proofs.lemmas.List.FromFn.{length-range_with_len}
use Rattle.std.proofs.lemmas.Nat.Bits.{bit_at_ones, bit_at_ones_above}
use Rattle.std.proofs.Math.Pow.{pow_mono}
use Rattle.lists.proofs.Filters.{filter-none, filter-passes}
use Rattle.cbm.specs.Masks.{has_way, lowest_run, ways_of}
use Rattle.cbm.specs.Validity.{checked}
use Rattle.cbm.specs.declared.fault.CbmFault.TheVariants.{TooFew}
use Rattle.cbm.specs.declared.geometry.Geometry.{Geometry}
use Rattle.cbm.proofs.laws.LowestRuns.{lowest_run-range}
use Rattle.cbm.proofs.laws.Validity.{checked-whole, is_out_of_range-below}
use Rattle.cbm.proofs.laws.Ways.{has_way-one, has_way-zero, ways_of-injective}

-- a mask of n ones has the ways below n
pub ways_of-ones : (n : ℕ) → n ≤ 64 → ways_of (2 ^ n - 1) ≡ range_with_len 0 n
unfolding ways_of
ways_of-ones n le =
    let mask = 2 ^ n - 1 in
    filter-passes (has_way mask) 0 n 64 le (λ k a b. has_way-one mask k (bit_at_ones n k (omega arith)))
    ∙ ap (λ (xs : List ℕ). range_with_len 0 n ++ xs) (filter-none (has_way mask) (0 + n) (64 - n) (λ k a b. has_way-zero mask k (bit_at_ones_above n k (omega arith))))
    ∙ append-nil (range_with_len 0 n)

-- the mask whose ways are those below n is that of n ones
pub ways_of-range : (mask n : ℕ) → mask < 2 ^ 32 → n ≤ 32 → ways_of mask ≡ range_with_len 0 n → mask ≡ 2 ^ n - 1
ways_of-range mask n small le ways =
    let most : 2 ^ n ≤ 2 ^ 32 = pow_mono {i = n} {j = 32} le in
    ways_of-injective mask (2 ^ n - 1) (omega arith) (omega arith) (ways ∙ sym (ways_of-ones n (omega arith)))

-- those ways are adjacent
lowest_run-every_way : (n : ℕ) → 0 < n → lowest_run (range_with_len 0 n) ≡ range_with_len 0 n
lowest_run-every_way n some = ap lowest_run (sym (append-nil (range_with_len 0 n))) ∙ lowest_run-range 0 n [] some refl

-- the mask of every way is valid
pub checked-ones : (g : Geometry) → 0 < g.len → g.len ≤ 32 → g.min ≤ g.len → checked g (2 ^ g.len - 1) ≡ Ok (2 ^ g.len - 1)
checked-ones g some few enough =
    let mask = 2 ^ g.len - 1 in
    let most : 2 ^ g.len ≤ 2 ^ 32 = pow_mono {i = g.len} {j = 32} few in
    let least : 2 ^ 1 ≤ 2 ^ g.len = pow_mono {i = 1} {j = g.len} some in
    let ways : ways_of mask ≡ range_with_len 0 g.len = ways_of-ones g.len (omega arith) in
    let run : ways_of mask ≡ lowest_run (ways_of mask) = ways ∙ sym (lowest_run-every_way g.len some) ∙ ap lowest_run (sym ways) in
    let count : length (ways_of mask) ≡ g.len = ap length ways ∙ length-range_with_len 0 g.len in
    checked-whole g mask mask (is_out_of_range-below g mask (omega arith) (omega arith) (omega arith)) run (whole g.sparse refl)
    ∙ ap (λ (b : Bool). cond b (Err TooFew) (Ok mask)) (le-ltb (length (ways_of mask)) g.min (omega arith))
  where
    whole : (b : Bool) → g.sparse ≡ b → ((g.sparse ≡ false) × (2 ^ g.len - 1 ≡ 2 ^ g.len - 1)) ⊎ (g.sparse ≡ true)
    whole true is = inr is
    whole false is = inl (is, refl)
