-- Counts over the places that a cache keeps.
use Rattle.std.proofs.Common.{◌≡◌, ℕ, add-zero, ◌%◌, ◌+◌, ◌*◌, ◌^◌, ◌-◌, ◌<◌, ◌≤◌, ◌==◌, Bool, true, false, cond, List, length, Option, Some, None, refl, sym, ◌∙◌, ap, subst, arith, inl, inr}
use Rattle.std.specs.Prelude.{IfSome, is_some, slice_index}
use Rattle.std.proofs.lemmas.Bool.{cases_Bool, cases_lt, cond-true, eqb-true, eq-eqb}
use Rattle.std.proofs.Math.ListN.{get_or-eq_default}
use Rattle.std.proofs.Math.Nat.{mul-le-mul_right, mul-le-mul_left}
use Rattle.cache_core.specs.declared.entry.SliceEntry.{SliceEntry}
use Rattle.cache_core.specs.declared.cached_line.CachedLine.{CachedLine}
use Rattle.cache_core.specs.RmidCounts.{IsCounted}
use Rattle.cache_core.specs.Filled.{places_with}
use Rattle.cache_core.specs.Fills.{Resident}
use Rattle.cache_core.specs.History.{Shape, IsOwn, is_own, is_of, lines_of, valid_of, held}
use Rattle.cache_core.specs.Kept.{IsKept, residents, spread}
use Rattle.cache_core.specs.Places.{IsFormed, set_in, place_in, CacheValue}
use Rattle.cache_core.specs.Stands.{StandsFor}
use Rattle.lists.specs.Sums.{sum_below, one_if}
use Rattle.lists.proofs.Sums.{sum_below-same, sum_below-zero}
use Rattle.cache_core.proofs.Occupancy.{sum_below-places_with}
use Rattle.cache_core.proofs.KeptPlaces.{res}
use Rattle.cache_core.proofs.laws.Places.{places_with-changed, places_with-le, places_with-same}

-- ---- one place

-- the count after a change of one place, by what it holds before and after
pub places_with-exchanged : (m : Shape) (p : Option Resident → Bool) (holds other : ℕ → ℕ → Option Resident) (set way : ℕ) → IsOwn m set → way < m.ways
    → ((s w : ℕ) → ((s ≡ set) × (w ≡ way) → ⊥) → other s w ≡ holds s w)
    → places_with m p other + one_if (p (holds set way)) ≡ places_with m p holds + one_if (p (other set way))
places_with-exchanged m p holds other set way own inside same = go (p (holds set way)) (p (other set way)) refl refl
  where
    go : (b c : Bool) → p (holds set way) ≡ b → p (other set way) ≡ c → places_with m p other + one_if b ≡ places_with m p holds + one_if c
    go true true before after = ap (λ n. n + 1) (places_with-changed m p holds other set way 0 own inside same (ap one_if after ∙ sym (ap (λ b. one_if b + 0) before)) ∙ add-zero _)
    go false false before after = ap (λ n. n + 0) (places_with-changed m p holds other set way 0 own inside same (ap one_if after ∙ sym (ap (λ b. one_if b + 0) before)) ∙ add-zero _)
    go false true before after = add-zero _ ∙ places_with-changed m p holds other set way 1 own inside same (ap one_if after ∙ sym (ap (λ b. one_if b + 1) before))
    go true false before after = sym (places_with-changed m p other holds set way 1 own inside (λ s w apart. sym (same s w apart)) (ap one_if before ∙ sym (ap (λ b. one_if b + 1) after))) ∙ sym (add-zero _)

-- no place that passes
pub places_with-none : (m : Shape) (p : Option Resident → Bool) (holds : ℕ → ℕ → Option Resident) → p None ≡ false → ((s w : ℕ) → holds s w ≡ None) → places_with m p holds ≡ 0
places_with-none m p holds fails none =
    sum_below-zero m.sets _
    (λ s l. elim (cases_Bool (is_own m s)) [
      | inl own ↦ rw own (sum_below-zero m.ways (λ w. one_if (p (holds s w))) (λ w lw. ap (λ o. one_if (p o)) (none s w) ∙ ap one_if fails))
      | inr other ↦ rw other refl
    ])

-- a place that passes is counted
pub lt-places_with : (m : Shape) (p : Option Resident → Bool) (holds : ℕ → ℕ → Option Resident) (set way : ℕ) → IsOwn m set → way < m.ways → p None ≡ false → p (holds set way) ≡ true → 0 < places_with m p holds
lt-places_with m p holds set way own inside fails passes =
    let other : ℕ → ℕ → Option Resident = λ s w. cond (s == set) (cond (w == way) None (holds s w)) (holds s w) in
    let same : (s w : ℕ) → ((s ≡ set) × (w ≡ way) → ⊥) → other s w ≡ holds s w = λ s w apart. elim (cases_Bool (s == set)) [
      | inl e ↦ elim (cases_Bool (w == way)) [ inl e' ↦ absurd (apart (eqb-true s set e, eqb-true w way e')) | inr e' ↦ rw (e, e') refl ]
      | inr e ↦ rw e refl
    ] in
    let gone : other set way ≡ None = ap (λ b. cond b (cond (way == way) None (holds set way)) (holds set way)) (eq-eqb set set refl) ∙ ap (λ b. cond b None (holds set way)) (eq-eqb way way refl) in
    let less : places_with m p other + one_if (p (holds set way)) ≡ places_with m p holds + one_if (p (other set way)) = places_with-exchanged m p holds other set way own inside same in
    let before : one_if (p (holds set way)) ≡ 1 = ap one_if passes in
    let after : one_if (p (other set way)) ≡ 0 = ap (λ o. one_if (p o)) gone ∙ ap one_if fails in
    omega arith

-- ---- the counts of a cache

-- the line of a place has its RMID
IfSome-resident : (o : Option CachedLine) (n : ℕ) → IfSome o (λ p. p.rmid < n) → IfSome (res o) (λ r. r.rmid < n)
IfSome-resident None n h = tt
IfSome-resident (Some p) n h = h

-- each line has an RMID of the machine
IfSome-residents : (m : Shape) (rmids clock : ℕ) (places : List (List (Option CachedLine))) (set way : ℕ) → IsFormed m rmids clock places → IfSome (residents places set way) (λ r. r.rmid < rmids)
IfSome-residents m rmids clock places set way formed = IfSome-resident (place_in (set_in places set) way) rmids (formed.named set way)

-- the counts, added up
pub sum_below-counts : (m : Shape) (rmids clock : ℕ) (own : List (List (Option CachedLine))) (counts : List ℕ) (shift : ℕ) → IsKept m rmids clock own counts shift
    → sum_below (length counts) (slice_index counts) ≡ places_with m (λ o. is_some o) (residents (spread m own))
sum_below-counts m rmids clock own counts shift kept =
    ap (λ n. sum_below n (slice_index counts)) kept.known
    ∙ (sum_below-same rmids (slice_index counts) (λ r. places_with m (is_of r) (residents (spread m own))) kept.counted
    ∙ sum_below-places_with m (residents (spread m own)) rmids (λ s w _ _ _. IfSome-residents m rmids clock (spread m own) s w kept.formed))

-- they are far below what a word holds
pub sum_below-counts_lt : (m : Shape) (rmids clock : ℕ) (own : List (List (Option CachedLine))) (counts : List ℕ) (shift : ℕ) → IsKept m rmids clock own counts shift → m.sets ≤ 65536 → m.ways ≤ 32
    → sum_below (length counts) (slice_index counts) < 2 ^ 64 - 1
sum_below-counts_lt m rmids clock own counts shift kept sets ways =
    let most : places_with m (λ o. is_some o) (residents (spread m own)) ≤ m.sets * m.ways = places_with-le m (λ o. is_some o) (residents (spread m own)) in
    let rows : m.sets * m.ways ≤ 65536 * m.ways = mul-le-mul_right m.ways sets in
    let all : 65536 * m.ways ≤ 65536 * 32 = mul-le-mul_left 65536 ways in
    omega (arith, sum_below-counts m rmids clock own counts shift kept, most, rows, all)

-- a line of an own set is counted
pub IsCounted-place : (m : Shape) (rmids clock : ℕ) (own : List (List (Option CachedLine))) (counts : List ℕ) (shift set way : ℕ) → IsKept m rmids clock own counts shift → IsOwn m set → way < m.ways
    → IfSome (place_in (set_in (spread m own) set) way) (λ p. IsCounted counts p.rmid)
IsCounted-place m rmids clock own counts shift set way kept is inside = go (place_in (set_in (spread m own) set) way) refl (kept.formed.named set way)
  where
    go : (o : Option CachedLine) → place_in (set_in (spread m own) set) way ≡ o → IfSome o (λ p. p.rmid < rmids) → IfSome o (λ p. IsCounted counts p.rmid)
    go None here named = tt
    go (Some p) here named = record {
      known = omega (arith, named, kept.known);
      some = let one : 0 < places_with m (is_of p.rmid) (residents (spread m own)) = lt-places_with m (is_of p.rmid) (residents (spread m own)) set way is inside refl (ap (λ o. is_of p.rmid (res o)) here ∙ eq-eqb p.rmid p.rmid refl) in omega (arith, one, kept.counted p.rmid named);
    }

-- so is each line of such a set
pub IsCounted-kept_place : (m : Shape) (rmids clock : ℕ) (own : List (List (Option CachedLine))) (counts : List ℕ) (shift set way : ℕ) → IsKept m rmids clock own counts shift → IsOwn m set
    → IfSome (place_in (set_in (spread m own) set) way) (λ p. IsCounted counts p.rmid)
IsCounted-kept_place m rmids clock own counts shift set way kept is = elim (cases_lt way m.ways) [
  | inl less ↦ IsCounted-place m rmids clock own counts shift set way kept is less
  | inr past ↦
      let width : length (set_in (spread m own) set) ≡ m.ways = kept.formed.widths set is.0 ∙ cond-true (is_own m set) m.ways 0 (eq-eqb (set % m.slices) m.slice is.1) in
      let none : place_in (set_in (spread m own) set) way ≡ None = get_or-eq_default (set_in (spread m own) set) None (omega arith) in
      subst (λ (o : Option CachedLine). IfSome o (λ p. IsCounted counts p.rmid)) (sym none) tt
]

-- ---- the counts of a history

-- the kept lines of an RMID are those of the history
pub slice_index-lines_of : (cache : CacheValue) (own : List (List (Option CachedLine))) (counts : List ℕ) (shift rmid : ℕ) (history : List SliceEntry) → cache.places ≡ spread cache.shape own
    → IsKept cache.shape cache.rmids cache.clock own counts shift → rmid < cache.rmids → StandsFor cache history → slice_index counts rmid ≡ lines_of cache.shape history rmid
slice_index-lines_of cache own counts shift rmid history is kept known stands =
    kept.counted rmid known
    ∙ (ap (λ ps. places_with cache.shape (is_of rmid) (residents ps)) (sym is)
    ∙ places_with-same cache.shape (is_of rmid) (residents cache.places) (held cache.shape history) stands.holds)

-- the kept lines of all RMIDs are those of the history
pub sum_below-valid_of : (cache : CacheValue) (own : List (List (Option CachedLine))) (counts : List ℕ) (shift : ℕ) (history : List SliceEntry) → cache.places ≡ spread cache.shape own
    → IsKept cache.shape cache.rmids cache.clock own counts shift → StandsFor cache history → sum_below (length counts) (slice_index counts) ≡ valid_of cache.shape history
sum_below-valid_of cache own counts shift history is kept stands =
    sum_below-counts cache.shape cache.rmids cache.clock own counts shift kept
    ∙ (ap (λ ps. places_with cache.shape (λ o. is_some o) (residents ps)) (sym is)
    ∙ places_with-same cache.shape (λ o. is_some o) (residents cache.places) (held cache.shape history) stands.holds)

-- the lines of all RMIDs together are the places that hold a line
pub sum_below-lines_of_rmids : (cache : CacheValue) (history : List SliceEntry) → IsFormed cache.shape cache.rmids cache.clock cache.places → StandsFor cache history
    → sum_below cache.rmids (lines_of cache.shape history) ≡ valid_of cache.shape history
sum_below-lines_of_rmids cache history formed stands =
    sum_below-places_with cache.shape (held cache.shape history) cache.rmids
    (λ set way ls lw own. subst (λ (o : Option Resident). IfSome o (λ r. r.rmid < cache.rmids)) (stands.holds set way (ls, eqb-true (set % cache.shape.slices) cache.shape.slice own) lw) (IfSome-residents cache.shape cache.rmids cache.clock cache.places set way formed))
