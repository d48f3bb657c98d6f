-- The mask of the ways that a new group may start with.
use Rattle.std.proofs.Common.{◌≡◌, ◌≢◌, ℕ, zero, suc, ◌+◌, ◌-◌, ◌/◌, ◌%◌, ◌^◌, ◌<◌, ◌≤◌, bit_or, Bool, true, false, not, ◌||◌, cond, eqb, List, length, Option, Some, None, Ok, inl, inr, refl, sym, subst, ap, ◌∙◌, arith, w32, w64}
use Rattle.std.specs.Int.{bit_at, bit_not, trailing_ones, trailing_zeros}
use Rattle.std.proofs.lemmas.Bool.{cases_lt, eqb-false, ltb-false}
use Rattle.std.proofs.lemmas.List.FromFn.{length-range_with_len}
use Rattle.std.proofs.lemmas.Nat.Bits.{bit_at_above, bit_at_and, bit_at_ones_above, same_from_bits}
use Rattle.std.proofs.Math.Pow.{pow_mono, pow_pos}
use Rattle.cbm.proofs.laws.LowestRuns.{IsLowestRun, trailing_zeros-lowest_run, ways_of-mod_pow}
use Rattle.lists.proofs.Filters.{filter-same}
use Rattle.lists.proofs.Bits.{bit_at-mod_pow}
use Rattle.cbm.proofs.laws.Ways.{ways_of-zero}
use Rattle.cbm.specs.Masks.{has_way, lowest_run, ways_of}
use Rattle.cbm.specs.Validity.{checked, is_too_few}
use Rattle.cbm.specs.declared.geometry.Geometry.{Geometry}
use Rattle.mode_rules.proofs.laws.StartingMasks.{checked-all_ways, checked-run, may_start_with-all_ways, may_start_with-run}
use Rattle.mode_rules.proofs.laws.StartingWays.{filter-starting_ways, union, ways_of-union}
use Rattle.mode_rules.specs.StartingWays.{granted_ways, has_no_space, initial_ways, may_start_with, starting_ways}
use Rattle.mode_rules.specs.declared.domain_use.DomainUse.{DomainUse}
use Rattle.tree_law.proofs.laws.WayMasks.{mask_of-ways_of}
use Rattle.tree_law.specs.Space.{mask_of}

-- ---- the mask of the ways that a new group may start with

-- the low 32 bits
has_way-mod_pow : (x k : ℕ) → k < 32 → has_way (x % 2 ^ 32) k ≡ has_way x k
has_way-mod_pow x k lt = ap (λ (n : ℕ). eqb n 1) (bit_at-mod_pow x 32 k lt)

-- the shareable bits and the ways of shareable groups
abbrev given_of : DomainUse → ℕ
given_of u = bit_or u.hardware u.shared

-- the ways of exclusive groups and of the region, in 32 bits
abbrev taken_of : DomainUse → ℕ
taken_of u = bit_or u.exclusive u.region % 2 ^ 32

-- the mask of the ways that are given or not taken
abbrev start_mask : DomainUse → ℕ → ℕ
start_mask u len = union (given_of u) (taken_of u) len

-- the ways of the mask are those to start with
ways_of-start_mask : (u : DomainUse) (len : ℕ) → len ≤ 32 → ways_of (start_mask u len) ≡ starting_ways len u
ways_of-start_mask u len le =
    ways_of-union (given_of u) (taken_of u) len le (omega arith)
    ∙ filter-same (λ way. has_way (given_of u) way || not (has_way (taken_of u) way)) (λ way. has_way (bit_or u.hardware u.shared) way || not (has_way (bit_or u.exclusive u.region) way)) 0 len
    (λ k low high. ap (λ (b : Bool). has_way (bit_or u.hardware u.shared) k || not b) (has_way-mod_pow (bit_or u.exclusive u.region) k (omega arith)))
    ∙ filter-starting_ways u len

-- the mask is of 32 bits
start_mask-below : (u : DomainUse) (len : ℕ) → len ≤ 32 → start_mask u len < 2 ^ 32
start_mask-below u len le = let same : start_mask u len ≡ start_mask u len % 2 ^ 32 = same_from_bits (start_mask u len) (start_mask u len % 2 ^ 32) bits in omega arith
  where
    bits : (i : ℕ) → bit_at (start_mask u len) i ≡ bit_at (start_mask u len % 2 ^ 32) i
    bits i = elim (cases_lt i 32) [
      | inl lt ↦ sym (bit_at-mod_pow (start_mask u len) 32 i lt)
      | inr above ↦ (let none : bit_at (2 ^ len - 1) i ≡ 0 = bit_at_ones_above len i (omega arith) in
          let both = bit_at_and (bit_or (given_of u) (bit_not w32 (taken_of u))) (2 ^ len - 1) i in
          let past : bit_at (start_mask u len % 2 ^ 32) i ≡ 0 = bit_at_above (start_mask u len % 2 ^ 32) 32 i (omega arith) above in
          omega (arith, none, both, past))
    ]

-- what is known of a mask of a new group
pub record IsStartMask (g : Geometry) (u : DomainUse) (mask : ℕ) : Type 0 where
  pub valid : checked g mask ≡ Ok mask
  pub within : (way : ℕ) → has_way mask way ≡ true → may_start_with u way ≡ true
  pub small : mask < 2 ^ 32

-- where there is space, there are ways enough, side by side
has_no_space-false : (g : Geometry) (ways : List ℕ) → has_no_space g ways ≡ false → (length ways ≢ 0) × (g.min ≤ length (lowest_run ways))
has_no_space-false g ways none = at (eqb (length ways) 0) (is_too_few g ways) refl refl none
  where
    at : (a b : Bool) → eqb (length ways) 0 ≡ a → is_too_few g ways ≡ b → (a || b) ≡ false → (length ways ≢ 0) × (g.min ≤ length (lowest_run ways))
    at true b isa isb e = absurd (let f : true ≡ false = e in cc)
    at false true isa isb e = absurd (let f : true ≡ false = e in cc)
    at false false isa isb e = (eqb-false (length ways) 0 isa, ltb-false (length (lowest_run ways)) g.min isb)

-- all the ways that a new group may start with, on a sparse machine
IsStartMask-starting_ways : (g : Geometry) (u : DomainUse) → g.len ≤ 32 → has_no_space g (starting_ways g.len u) ≡ false → g.sparse ≡ true → IsStartMask g u (mask_of (starting_ways g.len u))
IsStartMask-starting_ways g u le space sparse =
    let mask = start_mask u g.len in
    let are = ways_of-start_mask u g.len le in
    let small = start_mask-below u g.len le in
    let has = has_no_space-false g (starting_ways g.len u) space in
    let is_mask : mask_of (starting_ways g.len u) ≡ mask = ap mask_of (sym are) ∙ mask_of-ways_of mask (omega arith) in
    subst (IsStartMask g u) (sym is_mask) (record {
      valid = checked-all_ways g u mask sparse are (omega (arith, ap length are, has.0)) (omega (arith, ap (λ (xs : List ℕ). length (lowest_run xs)) are, has.1));
      within = λ way h. may_start_with-all_ways u g.len mask way small are h;
      small = small;
    })

-- their lowest run
IsStartMask-lowest_run : (g : Geometry) (u : DomainUse) → g.len ≤ 32 → has_no_space g (starting_ways g.len u) ≡ false → IsStartMask g u (mask_of (lowest_run (starting_ways g.len u)))
IsStartMask-lowest_run g u le space =
    let mask = start_mask u g.len in
    let are = ways_of-start_mask u g.len le in
    let small = start_mask-below u g.len le in
    let has = has_no_space-false g (starting_ways g.len u) space in
    let some : 0 < mask = positive mask (λ zeroth. has.0 (ap length (sym are ∙ ways_of-zero mask zeroth))) in
    let low = trailing_zeros w64 mask in
    let run = trailing_ones w64 (mask / 2 ^ low) in
    let f = trailing_zeros-lowest_run mask low run some small refl refl in
    let part = mask % 2 ^ (low + run) in
    let part_is : ways_of part ≡ lowest_run (ways_of mask) = ways_of-mod_pow mask low run f ∙ sym f.run_is in
    let most : 2 ^ (low + run) ≤ 2 ^ 32 = pow_mono {i = low + run} {j = 32} f.within in
    let less : part < 2 ^ 32 = omega (arith, most, pow_pos (low + run)) in
    let is_mask : mask_of (lowest_run (starting_ways g.len u)) ≡ part = ap mask_of (ap lowest_run (sym are) ∙ sym part_is) ∙ mask_of-ways_of part (omega arith) in
    let count : length (ways_of part) ≡ length (lowest_run (starting_ways g.len u)) = ap length part_is ∙ ap (λ (xs : List ℕ). length (lowest_run xs)) are in
    let there : 0 < length (ways_of part) = run_there part low run f part_is in
    subst (IsStartMask g u) (sym is_mask) (record {
      valid = checked-run g u mask part are part_is there (omega (arith, count, has.1));
      within = λ way h. may_start_with-run u g.len mask part way less are part_is h;
      small = less;
    })
  where
    positive : (n : ℕ) → (n ≡ 0 → ⊥) → 0 < n
    positive zero ne = absurd (ne refl)
    positive (suc n) ne = omega arith

    run_there : (part low run : ℕ) → IsLowestRun (start_mask u g.len) low run → ways_of part ≡ lowest_run (ways_of (start_mask u g.len)) → 0 < length (ways_of part)
    run_there part low run f is = omega (arith, ap length (is ∙ f.run_is), length-range_with_len low run, f.some)

-- the mask of what a new group gets of those ways
IsStartMask-granted_ways : (g : Geometry) (u : DomainUse) → g.len ≤ 32 → has_no_space g (starting_ways g.len u) ≡ false → IsStartMask g u (mask_of (granted_ways g (starting_ways g.len u)))
IsStartMask-granted_ways g u le space = at g.sparse refl
  where
    at : (b : Bool) → g.sparse ≡ b → IsStartMask g u (mask_of (cond b (starting_ways g.len u) (lowest_run (starting_ways g.len u))))
    at true sparse = IsStartMask-starting_ways g u le space sparse
    at false whole = IsStartMask-lowest_run g u le space

-- the mask of the first ways is one that a group may start with
pub IsStartMask-mask_of : (g : Geometry) (u : DomainUse) (ways : List ℕ) → g.len ≤ 32 → initial_ways g u ≡ Some ways → IsStartMask g u (mask_of ways)
unfolding initial_ways
IsStartMask-mask_of g u ways le is = at (has_no_space g (starting_ways g.len u)) refl is
  where
    at : (b : Bool) → has_no_space g (starting_ways g.len u) ≡ b → cond b None (Some (granted_ways g (starting_ways g.len u))) ≡ Some ways → IsStartMask g u (mask_of ways)
    at true space e = absurd (let f : ◌≡◌ {A = Option (List ℕ)} None (Some ways) = e in cc)
    at false space e =
        (let same : granted_ways g (starting_ways g.len u) ≡ ways = (let f : Some (granted_ways g (starting_ways g.len u)) ≡ Some ways = e in cc) in
        subst (λ (xs : List ℕ). IsStartMask g u (mask_of xs)) same (IsStartMask-granted_ways g u le space))
