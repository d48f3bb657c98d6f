-- A slice into which a region was loaded, and how many lines it has then.
use Rattle.std.proofs.Common.{◌≡◌, ℕ, zero, suc, ◌+◌, ◌*◌, ◌/◌, ◌%◌, ◌<◌, ◌==◌, Bool, true, false, cond, List, [], length, Option, None, refl, sym, ◌∙◌, ap, subst, arith, inl, inr}
use Rattle.std.specs.Prelude.{IfSome, slice_index}
use Rattle.std.proofs.lemmas.Bool.{cases_Bool, cases_lt, eqb-true}
use Rattle.std.proofs.Math.ListN.{get_or-eq_default}
use Rattle.cbm.specs.Masks.{has_way}
use Rattle.cache_core.specs.declared.cached_line.CachedLine.{CachedLine}
use Rattle.cache_core.specs.Filled.{places_with}
use Rattle.cache_core.specs.History.{Shape, IsOwn, is_own, is_of, ways_below}
use Rattle.cache_core.specs.Kept.{IsKept, residents, spread}
use Rattle.cache_core.specs.Loads.{AreLoaded, loaded, loaded_place}
use Rattle.cache_core.specs.Places.{place_in, set_in}
use Rattle.lists.specs.Sums.{one_if, sum_below}
use Rattle.lists.proofs.Sums.{sum_below-same}
use Rattle.cache_core.proofs.Keeping.{length-kept_set}
use Rattle.cache_core.proofs.KeptDrops.{length-set_in_spread_same}
use Rattle.cache_core.proofs.KeptPlaces.{res}
use Rattle.cache_core.proofs.RegionLoads.{number-own}
use Rattle.cache_core.proofs.Spread.{length-spread, set_in-spread, set_in-spread_own}
use Rattle.cache_core.proofs.laws.OwnSets.{sum_below-is_own}
use Rattle.cache_core.proofs.laws.Places.{places_with-same}

-- ---- counts

-- whether a place that is loaded has the RMID
is_of-loaded : (b : Bool) (rmid line stamp : ℕ) → is_of rmid (res (cond b (loaded line stamp) None)) ≡ cond b (0 == rmid) false
is_of-loaded true rmid line stamp = refl
is_of-loaded false rmid line stamp = refl

-- the lines of an RMID in the ways of a set
sum_below-loaded : (m : Shape) (rmid mask first_line stamp set ways : ℕ) → sum_below ways (λ w. one_if (is_of rmid (res (loaded_place m mask first_line stamp set w)))) ≡ cond (0 == rmid) (ways_below mask ways) 0
sum_below-loaded m rmid mask first_line stamp set zero = either (0 == rmid) 0
  where
    either : (b : Bool) (n : ℕ) → n ≡ cond b n n
    either true n = refl
    either false n = refl
sum_below-loaded m rmid mask first_line stamp set (suc ways) =
    ap (λ b. sum_below ways (λ w. one_if (is_of rmid (res (loaded_place m mask first_line stamp set w)))) + one_if b) (is_of-loaded (has_way mask ways) rmid (first_line + set + ways_below mask ways * m.sets) stamp)
    ∙ next (has_way mask ways) (0 == rmid) (sum_below ways (λ w. one_if (is_of rmid (res (loaded_place m mask first_line stamp set w))))) (ways_below mask ways) (sum_below-loaded m rmid mask first_line stamp set ways)
  where
    next : (b c : Bool) (before n : ℕ) → before ≡ cond c n 0 → before + one_if (cond b c false) ≡ cond c (n + one_if b) 0
    next true true before n h = omega arith
    next true false before n h = omega arith
    next false true before n h = omega arith
    next false false before n h = omega arith

-- and in all own sets
places_with-loaded : (m : Shape) (rmid mask first_line stamp : ℕ) → m.slice < m.slices → m.sets % m.slices ≡ 0
    → places_with m (is_of rmid) (λ s w. res (loaded_place m mask first_line stamp s w)) ≡ cond (0 == rmid) (m.sets / m.slices * ways_below mask m.ways) 0
places_with-loaded m rmid mask first_line stamp inside whole =
    let each : ℕ = cond (0 == rmid) (ways_below mask m.ways) 0 in
    sum_below-same m.sets (λ s. cond (is_own m s) (sum_below m.ways (λ w. one_if (is_of rmid (res (loaded_place m mask first_line stamp s w))))) 0) (λ s. cond (is_own m s) each 0)
    (λ s l. ap (λ n. cond (is_own m s) n 0) (sum_below-loaded m rmid mask first_line stamp s m.ways))
    ∙ (sum_below-is_own m each inside whole ∙ times (0 == rmid) (m.sets / m.slices) (ways_below mask m.ways))
  where
    times : (b : Bool) (q n : ℕ) → q * cond b n 0 ≡ cond b (q * n) 0
    times true q n = refl
    times false q n = omega arith

-- ---- places

-- what is loaded into each set by its number among those of its slice
pub AreLoaded-numbered : (m : Shape) (rmids clock : ℕ) (own now : List (List (Option CachedLine))) (counts : List ℕ) (shift mask first_line start stamp : ℕ) → IsKept m rmids clock own counts shift → start ≡ first_line + m.slice
    → ((set way : ℕ) → way < length (set_in own set) → place_in (set_in now set) way ≡ cond (has_way mask way) (loaded (start + set * m.slices + ways_below mask way * m.sets) stamp) None)
    → AreLoaded m mask first_line stamp now
AreLoaded-numbered m rmids clock own now counts shift mask first_line start stamp kept first each set way is inside =
    each (set / m.slices) way (let width : length (set_in own (set / m.slices)) ≡ m.ways = length-kept_set m rmids clock own counts shift set kept is in omega arith)
    ∙ ap (λ n. cond (has_way mask way) (loaded (n + ways_below mask way * m.sets) stamp) None) (omega (arith, first, number-own m set is))

-- what is true of no line, and of each that is loaded, is true of each place
each_place : (m : Shape) (mask first_line stamp : ℕ) (now : List (List (Option CachedLine))) (P : Option CachedLine → Type 0) → AreLoaded m mask first_line stamp now → ((s : ℕ) → IsOwn m s → length (set_in now (s / m.slices)) ≡ m.ways)
    → P None → ((line : ℕ) → P (loaded line stamp)) → (s w : ℕ) → P (place_in (set_in (spread m now) s) w)
each_place m mask first_line stamp now P load widths none some s w = elim (cases_lt s m.sets) [
  | inl inside ↦ elim (cases_Bool (is_own m s)) [
    | inl own ↦
        let is : IsOwn m s = (inside, eqb-true (s % m.slices) m.slice own) in
        let row : set_in (spread m now) s ≡ set_in now (s / m.slices) = set_in-spread_own m now s is in
        elim (cases_lt w m.ways) [
          | inl less ↦ subst P (sym (ap (λ ps. place_in ps w) row ∙ load s w is less)) (go (has_way mask w) (first_line + s + ways_below mask w * m.sets))
          | inr past ↦ subst P (sym (ap (λ ps. place_in ps w) row ∙ get_or-eq_default (set_in now (s / m.slices)) None (let width : length (set_in now (s / m.slices)) ≡ m.ways = widths s is in omega arith))) none
        ]
    | inr other ↦ subst P (sym (ap (λ ps. place_in ps w) (set_in-spread m now s inside ∙ ap (λ b. cond b (set_in now (s / m.slices)) []) other))) none
  ]
  | inr past ↦ subst P (sym (ap (λ ps. place_in ps w) (get_or-eq_default (spread m now) [] (let count : length (spread m now) ≡ m.sets = length-spread m now in omega arith)))) none
]
  where
    go : (b : Bool) (line : ℕ) → P (cond b (loaded line stamp) None)
    go true line = some line
    go false line = none

-- ---- a lock

-- a lock leaves the places in order, and the counts theirs
pub IsKept-loaded : (m : Shape) (rmids clock : ℕ) (own now : List (List (Option CachedLine))) (counts new : List ℕ) (shift mask first_line : ℕ) → IsKept m rmids clock own counts shift → 0 < rmids → m.sets % m.slices ≡ 0
    → ((set : ℕ) → length (set_in now set) ≡ length (set_in own set)) → AreLoaded m mask first_line clock now → length new ≡ length counts → ((r : ℕ) → slice_index new r ≡ cond (0 == r) (m.sets / m.slices * ways_below mask m.ways) 0)
    → IsKept m rmids (clock + 1) now new shift
IsKept-loaded m rmids clock own now counts new shift mask first_line kept some whole widths load size counted =
    let wide : (s : ℕ) → IsOwn m s → length (set_in now (s / m.slices)) ≡ m.ways = λ s is. widths (s / m.slices) ∙ length-kept_set m rmids clock own counts shift s kept is in
    record {
      formed = record {
        count = length-spread m now;
        widths = length-set_in_spread_same m rmids clock own now counts shift kept widths;
        stamped = each_place m mask first_line clock now (λ o. IfSome o (λ p. p.used < clock + 1)) load wide tt (λ line. omega arith);
        named = each_place m mask first_line clock now (λ o. IfSome o (λ p. p.rmid < rmids)) load wide tt (λ line. some);
      };
      narrow = kept.narrow;
      inside = kept.inside;
      power = kept.power;
      known = size ∙ kept.known;
      counted = λ rmid l.
          counted rmid
          ∙ sym (places_with-same m (is_of rmid) (residents (spread m now)) (λ s w. res (loaded_place m mask first_line clock s w)) (λ s w is inside. ap res (ap (λ ps. place_in ps w) (set_in-spread_own m now s is) ∙ load s w is inside))
          ∙ places_with-loaded m rmid mask first_line clock kept.inside whole);
    }
