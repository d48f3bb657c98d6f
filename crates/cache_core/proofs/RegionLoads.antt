-- The lines of a region in the ways of a set.
use Rattle.std.proofs.Common.{◌≡◌, ℕ, zero, suc, ◌+◌, ◌*◌, ◌/◌, ◌^◌, ◌<◌, ◌≤◌, ◌==◌, Bool, true, false, cond, List, length, Option, None, replicate, slice_set, add-one, add-zero, refl, sym, ◌∙◌, ap, arith, inl, inr}
use Rattle.std.specs.Prelude.{nat_lt}
use Rattle.std.proofs.lemmas.Bool.{cases_Bool, cases_lt, cond-true, eqb-true, eqb-false, lt-ltb, le-ltb}
use Rattle.std.proofs.lemmas.List.{get_or-replicate, length-replicate}
use Rattle.std.proofs.Math.Nat.{div-add-mod, mul-le-mul_right}
use Rattle.cbm.specs.Masks.{has_way}
use Rattle.cache_core.specs.declared.emptied.Emptied.TheVariants.{Flushed, Locked}
use Rattle.cache_core.specs.declared.loading.RegionLoad.{RegionLoad}
use Rattle.cache_core.specs.declared.cached_line.CachedLine.{CachedLine}
use Rattle.cache_core.specs.History.{Shape, IsOwn, ways_below}
use Rattle.cache_core.specs.Lazy.{left_set, region_place}
use Rattle.cache_core.specs.Loads.{loaded}
use Rattle.cache_core.specs.Places.{place_in}
use Rattle.lists.specs.Sums.{one_if}
use Rattle.lists.proofs.Sums.{one_if-le}
use Rattle.cache_core.proofs.KeptPlaces.{get_or-set}
use Rattle.cache_core.proofs.LazyViews.{left_set-ways}

-- ---- ways of a mask

-- no more ways of a mask are below a way than all ways
pub ways_below-le : (mask way : ℕ) → ways_below mask way ≤ way
ways_below-le mask zero = omega arith
ways_below-le mask (suc way) = omega (arith, ways_below-le mask way, one_if-le (has_way mask way))

-- one more where the next way is in the mask
pub ways_below-next : (mask way : ℕ) → ways_below mask (way + 1) ≡ ways_below mask way + one_if (has_way mask way)
ways_below-next mask way = rw add-one refl

-- the line of the next way
pub line-next : (start mask way step line next : ℕ) (b : Bool) → has_way mask way ≡ b → line ≡ start + ways_below mask way * step → next ≡ line + cond b step 0 → next ≡ start + ways_below mask (way + 1) * step
line-next start mask way step line next true has from is =
    let one : ways_below mask (way + 1) ≡ ways_below mask way + 1 = ways_below-next mask way ∙ ap (λ b. ways_below mask way + one_if b) has in
    let split : (ways_below mask way + 1) * step ≡ ways_below mask way * step + step = omega arith in
    omega (arith, is, from, split, ap (λ n. n * step) one)
line-next start mask way step line next false has from is =
    let none : ways_below mask (way + 1) ≡ ways_below mask way = ways_below-next mask way ∙ (ap (λ b. ways_below mask way + one_if b) has ∙ add-zero (ways_below mask way)) in
    omega (arith, is, from, ap (λ n. n * step) none)

-- the lines of a region are small
pub lt-line : (first set set_step mask way way_step : ℕ) → first < 2 ^ 61 → set < 2 ^ 32 → set_step < 2 ^ 8 → way ≤ 32 → way_step < 2 ^ 32 → first + set * set_step + ways_below mask way * way_step < 2 ^ 62
lt-line first set set_step mask way way_step far number near few step =
    let row : set * set_step ≤ 4294967296 * set_step = mul-le-mul_right set_step (omega arith) in
    let column : ways_below mask way * way_step ≤ 32 * way_step = mul-le-mul_right way_step (omega (arith, ways_below-le mask way)) in
    omega arith

-- ---- way by way

-- whether a number is below the next limit, if it is not the limit
nat_lt-next : (k limit : ℕ) → (limit ≡ k → ⊥) → nat_lt k (limit + 1) ≡ nat_lt k limit
nat_lt-next k limit apart = elim (cases_lt k limit) [
  | inl less ↦ lt-ltb k (limit + 1) (omega arith) ∙ sym (lt-ltb k limit less)
  | inr more ↦ le-ltb k (limit + 1) (elim (cases_lt limit k) [ inl above ↦ omega arith | inr same ↦ absurd (apart (omega arith)) ]) ∙ sym (le-ltb k limit more)
]

-- a way more is loaded
pub place_in-loaded : (r : RegionLoad) (set way line : ℕ) (row : List (Option CachedLine)) → way < length row → has_way r.mask way ≡ true → line ≡ r.first_line + set * r.set_step + ways_below r.mask way * r.way_step
    → ((w : ℕ) → place_in row w ≡ cond (nat_lt w way) (region_place r set w) None) → (w : ℕ) → place_in (slice_set row way (loaded line r.stamp)) w ≡ cond (nat_lt w (way + 1)) (region_place r set w) None
place_in-loaded r set way line row inside has is below w =
    get_or-set row way w (loaded line r.stamp) None inside
    ∙ (elim (cases_Bool (way == w)) [
      | inl e ↦
          let same : way ≡ w = eqb-true way w e in
          rw e
          (ap (λ n. loaded n r.stamp) is
          ∙ (sym (cond-true (has_way r.mask way) (loaded (r.first_line + set * r.set_step + ways_below r.mask way * r.way_step) r.stamp) None has)
          ∙ (ap (region_place r set) same
          ∙ sym (cond-true (nat_lt w (way + 1)) (region_place r set w) None (lt-ltb w (way + 1) (omega arith))))))
      | inr e ↦ rw e (below w ∙ ap (λ b. cond b (region_place r set w) None) (sym (nat_lt-next w way (eqb-false way w e))))
    ])

-- a way is passed over
pub place_in-passed : (r : RegionLoad) (set way : ℕ) (row : List (Option CachedLine)) → has_way r.mask way ≡ false
    → ((w : ℕ) → place_in row w ≡ cond (nat_lt w way) (region_place r set w) None) → (w : ℕ) → place_in row w ≡ cond (nat_lt w (way + 1)) (region_place r set w) None
place_in-passed r set way row lacks below w =
    below w
    ∙ (elim (cases_Bool (way == w)) [
      | inl e ↦
          let same : way ≡ w = eqb-true way w e in
          let none : region_place r set w ≡ None = ap (λ b. cond b (loaded (r.first_line + set * r.set_step + ways_below r.mask w * r.way_step) r.stamp) None) (ap (has_way r.mask) (sym same) ∙ lacks) in
          ap (λ b. cond b (region_place r set w) None) (le-ltb w way (omega arith))
          ∙ (sym none ∙ sym (cond-true (nat_lt w (way + 1)) (region_place r set w) None (lt-ltb w (way + 1) (omega arith))))
      | inr e ↦ ap (λ b. cond b (region_place r set w) None) (sym (nat_lt-next w way (eqb-false way w e)))
    ])

-- all is loaded
pub left_set-loaded : (r : RegionLoad) (set way : ℕ) (row : List (Option CachedLine)) → length row ≤ way → ((w : ℕ) → place_in row w ≡ cond (nat_lt w way) (region_place r set w) None) → row ≡ left_set (Locked r) set (length row)
left_set-loaded r set way row all below =
    left_set-ways (Locked r) set row (λ w l. below w ∙ cond-true (nat_lt w way) (region_place r set w) None (lt-ltb w way (omega arith)))

-- nothing is loaded
pub left_set-flushed : (set ways : ℕ) → replicate ways None ≡ left_set Flushed set ways
left_set-flushed set ways =
    let row : List (Option CachedLine) = replicate ways None in
    let size : length row ≡ ways = length-replicate ways None in
    left_set-ways Flushed set row (λ w l. get_or-replicate ways w None None (omega arith)) ∙ ap (left_set Flushed set) size

-- ---- own sets by their numbers

-- the number of an own set
pub number-own : (m : Shape) (set : ℕ) → IsOwn m set → set / m.slices * m.slices + m.slice ≡ set
number-own m set own = omega (arith, div-add-mod set m.slices, own.1)
