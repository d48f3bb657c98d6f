-- The lowest run of a mask, which counting its zeros and then its ones from below finds.
use Rattle.std.proofs.Common.{◌≡◌, ◌≢◌, ℕ, zero, suc, ◌+◌, ◌-◌, ◌*◌, ◌/◌, ◌%◌, ◌^◌, ◌<◌, ◌≤◌, true, false, ◌||◌, eqb, List, [], ◌∷◌, ◌++◌, length, filter, inl, inr, refl, sym, ap, subst, ◌∙◌, arith, zero-add, div-le_self, w64}
use Rattle.std.specs.Int.{bit_at, trailing_zeros, trailing_ones}
use Rattle.std.specs.List.{list_any, range_with_len}
use Rattle.std.proofs.lemmas.List.{append-nil}
use Rattle.std.proofs.lemmas.List.FromFn.{length-range_with_len}
use Rattle.std.proofs.lemmas.Nat.{pow_pos}
use Rattle.std.proofs.Math.Nat.{mod-eq_of_lt}
use Rattle.std.proofs.Math.Pow.{pow-lt}
use Rattle.std.proofs.lemmas.Bool.{eq-eqb, eqb-true, ne_eqb, cases_lt}
use Rattle.std.proofs.lemmas.Nat.Bits.{bit_at-trailing_zeros, bit_at-trailing_ones, bit_at_above}
use Rattle.lists.proofs.Bits.{bit_at-div_pow, bit_at-mod_pow}
use Rattle.lists.proofs.Filters.{filter-fails, filter-passes, filter-none, list_any-filter_none}
use Rattle.cbm.specs.Masks.{has_way, lowest_run, ways_of}
use Rattle.cbm.proofs.laws.Ways.{has_way-one, has_way-zero, ways_of-zero}

-- the lowest run begins with a range, and is the range where what follows does not go on
pub lowest_run-range : (a r : ℕ) (xs : List ℕ) → 0 < r → list_any (λ x. eqb x (a + r)) xs ≡ false → lowest_run (range_with_len a r ++ xs) ≡ range_with_len a r
lowest_run-range a zero xs pos h = absurd (omega arith)
lowest_run-range a (suc zero) [] pos h = refl
lowest_run-range a (suc zero) (x ∷ xs) pos h = rw (first x xs h) refl
  where
    first : (x : ℕ) (xs : List ℕ) → list_any (λ x. eqb x (a + 1)) (x ∷ xs) ≡ false → eqb x (a + 1) ≡ false
    first x xs h = elim (eqb x (a + 1)) as (λ b. (b || list_any (λ x. eqb x (a + 1)) xs) ≡ false → b ≡ false) [ true ↦ λ e. e | false ↦ λ e. refl ] h
lowest_run-range a (suc (suc r)) xs pos h =
    let at : (a + 1) + suc r ≡ a + suc (suc r) = omega arith in
    let rest : lowest_run (range_with_len (a + 1) (suc r) ++ xs) ≡ range_with_len (a + 1) (suc r) = lowest_run-range (a + 1) (suc r) xs (omega arith) (rw at h) in
    rw (eq-eqb (a + 1) (a + 1) refl, rest) refl

-- those of a mask's ways that stand from a way on
abbrev pub ways_from : ℕ → ℕ → List ℕ
ways_from mask at = filter (has_way mask) (range_with_len at (64 - at))

-- The lowest run of a mask begins at `low` and has `run` ways.
pub record IsLowestRun (mask low run : ℕ) : Type 0 where
  pub some : 0 < run
  pub within : low + run ≤ 32
  pub below : (k : ℕ) → k < low → bit_at mask k ≡ 0
  pub inside : (k : ℕ) → low ≤ k → k < low + run → bit_at mask k ≡ 1
  pub end : bit_at mask (low + run) ≡ 0
  pub ways : ways_of mask ≡ range_with_len low run ++ ways_from mask (low + run)
  pub run_is : lowest_run (ways_of mask) ≡ range_with_len low run

-- a run from a bit that is set up to one that is not has a way
lt-run : (mask low run : ℕ) → bit_at mask low ≡ 1 → bit_at mask (low + run) ≡ 0 → 0 < run
lt-run mask low zero one end = let at : low + 0 ≡ low = omega arith in let none : bit_at mask low ≡ 0 = rw at at end in absurd (omega (arith, none, one))
lt-run mask low (suc run) one end = omega arith

-- a bit that is set is one of the 32 of its mask
le-last_bit : (mask n : ℕ) → bit_at mask (n - 1) ≡ 1 → 0 < n → mask < 2 ^ 32 → n ≤ 32
le-last_bit mask n one pos small =
    elim (cases_lt n 33) [
      | inl lt ↦ omega arith
      | inr le ↦ (let none : bit_at mask (n - 1) ≡ 0 = bit_at_above mask 32 (n - 1) small (omega arith) in absurd (omega (arith, none, one)))
    ]

-- a mask with no way below a run has the run, and then the ways past it
ways_of-split : (mask low run : ℕ) → low + run ≤ 32 → ((k : ℕ) → k < low → bit_at mask k ≡ 0) → ((k : ℕ) → low ≤ k → k < low + run → bit_at mask k ≡ 1) → ways_of mask ≡ range_with_len low run ++ ways_from mask (low + run)
unfolding ways_of
ways_of-split mask low run fits below inside =
    let rest : 64 - low - run ≡ 64 - (low + run) = omega arith in
    filter-fails (has_way mask) 0 low 64 (omega arith) (λ k a b. has_way-zero mask k (below k (omega arith)))
    ∙ ap (λ (a : ℕ). filter (has_way mask) (range_with_len a (64 - low))) (zero-add low)
    ∙ filter-passes (has_way mask) low run (64 - low) (omega arith) (λ k a b. has_way-one mask k (inside k a b))
    ∙ ap (λ (n : ℕ). range_with_len low run ++ filter (has_way mask) (range_with_len (low + run) n)) rest

-- counting finds the lowest run
pub trailing_zeros-lowest_run : (mask low run : ℕ) → 0 < mask → mask < 2 ^ 32 → low ≡ trailing_zeros w64 mask → run ≡ trailing_ones w64 (mask / 2 ^ low) → IsLowestRun mask low run
trailing_zeros-lowest_run mask low run pos small low_is run_is =
    let t : (low < 64) × (bit_at mask low ≡ 1) × ((i : ℕ) → i < low → bit_at mask i ≡ 0) = subst (λ (k : ℕ). (k < 64) × (bit_at mask k ≡ 1) × ((i : ℕ) → i < k → bit_at mask i ≡ 0)) (sym low_is) (bit_at-trailing_zeros w64 mask pos (omega arith)) in
    let rest = mask / 2 ^ low in
    let le : rest ≤ mask = div-le_self mask (2 ^ low) in
    let o : (run < 64) × (bit_at rest run ≡ 0) × ((i : ℕ) → i < run → bit_at rest i ≡ 1) = subst (λ (k : ℕ). (k < 64) × (bit_at rest k ≡ 0) × ((i : ℕ) → i < k → bit_at rest i ≡ 1)) (sym run_is) (bit_at-trailing_ones w64 rest (omega arith)) in
    let end : bit_at mask (low + run) ≡ 0 = sym (bit_at-div_pow mask low run) ∙ o.1 in
    let some : 0 < run = lt-run mask low run t.1 end in
    let inside : (k : ℕ) → low ≤ k → k < low + run → bit_at mask k ≡ 1 = λ k a b. (let at : low + (k - low) ≡ k = omega arith in ap (bit_at mask) (sym at) ∙ sym (bit_at-div_pow mask low (k - low)) ∙ o.2 (k - low) (omega arith)) in
    let fits : low + run ≤ 32 = le-last_bit mask (low + run) (inside (low + run - 1) (omega arith) (omega arith)) (omega arith) small in
    let ways : ways_of mask ≡ range_with_len low run ++ ways_from mask (low + run) = ways_of-split mask low run fits t.2 inside in
    let stops : list_any (λ x. eqb x (low + run)) (ways_from mask (low + run)) ≡ false = list_any-filter_none (has_way mask) (λ x. eqb x (low + run)) (low + run) (64 - (low + run)) (λ k a b yes_k. not_there k yes_k end) in
    record {
      some = some;
      within = fits;
      below = t.2;
      inside = inside;
      end = end;
      ways = ways;
      run_is = ap lowest_run ways ∙ lowest_run-range low run (ways_from mask (low + run)) some stops;
    }
  where
    not_there : (k : ℕ) → has_way mask k ≡ true → bit_at mask (low + run) ≡ 0 → eqb k (low + run) ≡ false
    not_there k yes_k end = ne_eqb k (low + run) (λ e. absurd (omega (arith, eqb-true (bit_at mask k) 1 yes_k, ap (bit_at mask) e, end)))

-- the part of a mask below the end of its lowest run is that run
pub ways_of-mod_pow : (mask low run : ℕ) → IsLowestRun mask low run → ways_of (mask % 2 ^ (low + run)) ≡ range_with_len low run
ways_of-mod_pow mask low run f =
    let part = mask % 2 ^ (low + run) in
    let small : part < 2 ^ (low + run) = omega (arith, pow_pos (low + run)) in
    ways_of-split part low run f.within
    (λ k lt. bit_at-mod_pow mask (low + run) k (omega arith) ∙ f.below k lt)
    (λ k a b. bit_at-mod_pow mask (low + run) k b ∙ f.inside k a b)
    ∙ ap (λ (xs : List ℕ). range_with_len low run ++ xs) (filter-none (has_way part) (low + run) (64 - (low + run)) (λ k a b. has_way-zero part k (bit_at_above part (low + run) k small a)))
    ∙ append-nil (range_with_len low run)

-- so it has a way
pub mod_pow-some : (mask low run : ℕ) → IsLowestRun mask low run → mask % 2 ^ (low + run) ≢ 0
mod_pow-some mask low run f none = absurd (omega (arith, f.some, length-range_with_len low run, ap length (sym (ways_of-mod_pow mask low run f) ∙ ways_of-zero (mask % 2 ^ (low + run)) none)))

-- `1 << end`, where `end` is a way or just past the last
pub shifted_one : (end : ℕ) → end ≤ 32 → 1 * 2 ^ end % 2 ^ 64 ≡ 2 ^ end
shifted_one end le =
    let small : 2 ^ end < 2 ^ 64 = pow-lt {i = end} {j = 64} (omega arith) in
    let one : 1 * 2 ^ end ≡ 2 ^ end = omega arith in
    rw one (mod-eq_of_lt small)
