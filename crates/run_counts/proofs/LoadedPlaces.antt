-- Counts of the places that a fill or a lock fills, and that a drop empties.
use Rattle.std.proofs.Common.{◌≡◌, ℕ, ◌+◌, ◌%◌, ◌<◌, ◌≤◌, ◌==◌, nat_lt, Bool, true, false, ◌&&◌, ◌||◌, ◌⊎◌, refl, sym, ap, ◌∙◌, subst, arith, inl, inr}
use Rattle.std.proofs.Math.Bool.{and-false, and-or_distrib_right, and-true, or-false}
use Rattle.std.proofs.lemmas.Bool.{cases_Bool, eqb-false, eqb-true, lt-ltb}
use Rattle.std.proofs.lemmas.Bool.Decides.{nat_tests}
use Rattle.cache_core.specs.History.{IsOwn, Shape, is_own}
use Rattle.cbm.specs.Masks.{has_way}
use Rattle.run_counts.proofs.Occupancies.{AddsPlaces-both, AddsPlaces-none, AddsPlaces-one, AddsPlaces-same, SkipsPlaces-none, SkipsPlaces-one, is_at, is_at-other}
use Rattle.run_counts.specs.Occupancies.{AddsPlace, AddsPlaces, OccupancyValue, SkipsPlace, SkipsPlaces}

-- ---- one fill

-- a fill of a place of the slice
pub AddsPlaces-fill : (m : Shape) (old new : OccupancyValue) (set place way rmid : ℕ) → m.ways ≤ 32 → set ≡ place → set < m.sets → is_own m set ≡ true → way < m.ways → AddsPlace old new set way rmid
    → AddsPlaces m old new rmid (λ s w. (place == s) && (way == w))
AddsPlaces-fill m old new set place way rmid few is inside own there adds =
    subst (λ (k : ℕ). AddsPlaces m old new rmid (λ s w. (k == s) && (way == w))) is
    (AddsPlaces-one m old new set way rmid few (inside, eqb-true (set % m.slices) m.slice own) there adds)

-- a place that is not of the slice is none of its places
elsewhere : (m : Shape) (set place way : ℕ) → set ≡ place → (s w : ℕ) → IsOwn m s → w < m.ways → (s ≡ place) × (w ≡ way) → (is_own m set ≡ false) ⊎ (m.ways ≤ way) → ⊥
elsewhere m set place way is s w own there same (inl not_own) = eqb-false (set % m.slices) m.slice not_own (subst (λ (k : ℕ). k % m.slices ≡ m.slice) (same.0 ∙ sym is) own.1)
elsewhere m set place way is s w own there same (inr past) = let place_is = same.1 in omega (arith, place_is, past, there)

-- a fill of another place
pub AddsPlaces-other_fill : (m : Shape) (now : OccupancyValue) (set place way rmid : ℕ) → set ≡ place → (is_own m set ≡ false) ⊎ (m.ways ≤ way)
    → AddsPlaces m now now rmid (λ s w. (place == s) && (way == w))
AddsPlaces-other_fill m now set place way rmid is other =
    AddsPlaces-none m now rmid (λ s w. (place == s) && (way == w)) (λ s w own there. is_at-other place way s w (λ same. elsewhere m set place way is s w own there same other))

-- ---- one drop

-- a drop from a place of the slice
pub SkipsPlaces-drop : (m : Shape) (old new : OccupancyValue) (set place way : ℕ) → m.ways ≤ 32 → set ≡ place → set < m.sets → is_own m set ≡ true → way < m.ways → SkipsPlace old new set way
    → SkipsPlaces m old new (λ s w. (place == s) && (way == w))
SkipsPlaces-drop m old new set place way few is inside own there skips =
    subst (λ (k : ℕ). SkipsPlaces m old new (λ s w. (k == s) && (way == w))) is
    (SkipsPlaces-one m old new set way few (inside, eqb-true (set % m.slices) m.slice own) there skips)

-- a drop from another place
pub SkipsPlaces-other_drop : (m : Shape) (now : OccupancyValue) (set place way : ℕ) → set ≡ place → (is_own m set ≡ false) ⊎ (m.ways ≤ way)
    → SkipsPlaces m now now (λ s w. (place == s) && (way == w))
SkipsPlaces-other_drop m now set place way is other =
    SkipsPlaces-none m now (λ s w. (place == s) && (way == w)) (λ s w own there. is_at-other place way s w (λ same. elsewhere m set place way is s w own there same other))

-- ---- the ways of a mask

-- below one more
nat_lt-suc : (w k : ℕ) → nat_lt w (k + 1) ≡ (nat_lt w k || (k == w))
nat_lt-suc w k = grind (arith, nat_tests)

-- none is below 0
nat_lt-zero : (w : ℕ) → nat_lt w 0 ≡ false
nat_lt-zero w = grind (arith, nat_tests)

-- a test of numbers below one more
and-or_and : (a b c d : Bool) → (a && ((b || c) && d)) ≡ ((a && (b && d)) || (a && (c && d)))
and-or_and false b c d = refl
and-or_and true true c true = refl
and-or_and true true true false = refl
and-or_and true true false false = refl
and-or_and true false c d = refl

-- the way itself
and-has_way : (mask k w : ℕ) → ((k == w) && has_way mask w) ≡ ((k == w) && has_way mask k)
and-has_way mask k w = elim (cases_Bool (k == w)) [
  | inl e ↦ let is : k ≡ w = eqb-true k w e in subst (λ (n : ℕ). ((k == n) && has_way mask n) ≡ ((k == n) && has_way mask k)) is refl
  | inr e ↦ rw e refl
]

-- the ways of a mask below this one, in a set
abbrev pub is_loaded_way : ℕ → ℕ → ℕ → ℕ → ℕ → Bool
is_loaded_way set mask below s w = (set == s) && (nat_lt w below && has_way mask w)

-- the ways below one more: those below, and the way itself
is_loaded_way-suc : (set mask k s w : ℕ) → is_loaded_way set mask (k + 1) s w ≡ (is_loaded_way set mask k s w || ((set == s) && ((k == w) && has_way mask k)))
is_loaded_way-suc set mask k s w =
    ap (λ b. (set == s) && (b && has_way mask w)) (nat_lt-suc w k)
    ∙ (and-or_and (set == s) (nat_lt w k) (k == w) (has_way mask w) ∙ ap (λ b. is_loaded_way set mask k s w || ((set == s) && b)) (and-has_way mask k w))

-- none so far
pub AddsPlaces-no_way : (m : Shape) (now : OccupancyValue) (set mask : ℕ) → AddsPlaces m now now 0 (is_loaded_way set mask 0)
AddsPlaces-no_way m now set mask = AddsPlaces-none m now 0 (is_loaded_way set mask 0) (λ s w own there. ap (λ b. (set == s) && (b && has_way mask w)) (nat_lt-zero w) ∙ and-false (set == s))

-- one more way of the mask
pub AddsPlaces-way : (m : Shape) (first old new : OccupancyValue) (set mask k : ℕ) → m.ways ≤ 32 → IsOwn m set → k < m.ways → has_way mask k ≡ true
    → AddsPlaces m first old 0 (is_loaded_way set mask k) → AddsPlace old new set k 0 → AddsPlaces m first new 0 (is_loaded_way set mask (k + 1))
AddsPlaces-way m first old new set mask k few own there has before adds =
    AddsPlaces-both m first old new 0 (is_loaded_way set mask k) (is_at set k) (is_loaded_way set mask (k + 1))
    (λ s w s_own w_there. is_loaded_way-suc set mask k s w ∙ ap (λ b. is_loaded_way set mask k s w || ((set == s) && b)) (ap (λ b. (k == w) && b) has ∙ and-true (k == w)))
    before (AddsPlaces-one m old new set k 0 few own there adds)

-- one that is not of the mask
pub AddsPlaces-other_way : (m : Shape) (first now : OccupancyValue) (set mask k : ℕ) → has_way mask k ≡ false
    → AddsPlaces m first now 0 (is_loaded_way set mask k) → AddsPlaces m first now 0 (is_loaded_way set mask (k + 1))
AddsPlaces-other_way m first now set mask k has before =
    AddsPlaces-same m first now 0 (is_loaded_way set mask k) (is_loaded_way set mask (k + 1))
    (λ s w s_own w_there. is_loaded_way-suc set mask k s w ∙ (ap (λ b. is_loaded_way set mask k s w || ((set == s) && b)) (ap (λ b. (k == w) && b) has ∙ and-false (k == w)) ∙ (ap (λ b. is_loaded_way set mask k s w || b) (and-false (set == s)) ∙ or-false (is_loaded_way set mask k s w))))
    before

-- all ways of the mask
pub AddsPlaces-all_ways : (m : Shape) (first now : OccupancyValue) (set mask : ℕ) → AddsPlaces m first now 0 (is_loaded_way set mask m.ways) → AddsPlaces m first now 0 (λ s w. (set == s) && has_way mask w)
AddsPlaces-all_ways m first now set mask before =
    AddsPlaces-same m first now 0 (is_loaded_way set mask m.ways) (λ s w. (set == s) && has_way mask w)
    (λ s w own there. sym (ap (λ b. (set == s) && (b && has_way mask w)) (lt-ltb w m.ways there))) before

-- ---- the sets of a slice

-- the ways of a mask, in the sets below this one
abbrev pub is_loaded_set : ℕ → ℕ → ℕ → ℕ → Bool
is_loaded_set mask below s w = nat_lt s below && has_way mask w

-- the sets below one more: those below, and the set itself
is_loaded_set-suc : (mask k s w : ℕ) → is_loaded_set mask (k + 1) s w ≡ (is_loaded_set mask k s w || ((k == s) && has_way mask w))
is_loaded_set-suc mask k s w = ap (λ b. b && has_way mask w) (nat_lt-suc s k) ∙ and-or_distrib_right (nat_lt s k) (k == s) (has_way mask w)

-- none so far
pub AddsPlaces-no_set : (m : Shape) (now : OccupancyValue) (mask : ℕ) → AddsPlaces m now now 0 (is_loaded_set mask 0)
AddsPlaces-no_set m now mask = AddsPlaces-none m now 0 (is_loaded_set mask 0) (λ s w own there. ap (λ b. b && has_way mask w) (nat_lt-zero s))

-- one more set of the slice
pub AddsPlaces-set : (m : Shape) (first old new : OccupancyValue) (mask k : ℕ) → AddsPlaces m first old 0 (is_loaded_set mask k) → AddsPlaces m old new 0 (λ s w. (k == s) && has_way mask w)
    → AddsPlaces m first new 0 (is_loaded_set mask (k + 1))
AddsPlaces-set m first old new mask k before adds =
    AddsPlaces-both m first old new 0 (is_loaded_set mask k) (λ s w. (k == s) && has_way mask w) (is_loaded_set mask (k + 1)) (λ s w own there. is_loaded_set-suc mask k s w) before adds

-- one that is not of the slice
pub AddsPlaces-other_set : (m : Shape) (first now : OccupancyValue) (mask k : ℕ) → is_own m k ≡ false → AddsPlaces m first now 0 (is_loaded_set mask k) → AddsPlaces m first now 0 (is_loaded_set mask (k + 1))
AddsPlaces-other_set m first now mask k other before =
    AddsPlaces-same m first now 0 (is_loaded_set mask k) (is_loaded_set mask (k + 1))
    (λ s w own there. is_loaded_set-suc mask k s w ∙ (ap (λ b. is_loaded_set mask k s w || (b && has_way mask w)) (apart s own) ∙ or-false (is_loaded_set mask k s w))) before
  where
    apart : (s : ℕ) → IsOwn m s → (k == s) ≡ false
    apart s own = elim (cases_Bool (k == s)) [
      | inl e ↦ absurd (eqb-false (k % m.slices) m.slice other (subst (λ (n : ℕ). n % m.slices ≡ m.slice) (sym (eqb-true k s e)) own.1))
      | inr e ↦ e
    ]

-- all sets
pub AddsPlaces-all_sets : (m : Shape) (first now : OccupancyValue) (mask : ℕ) → AddsPlaces m first now 0 (is_loaded_set mask m.sets) → AddsPlaces m first now 0 (λ s w. has_way mask w)
AddsPlaces-all_sets m first now mask before =
    AddsPlaces-same m first now 0 (is_loaded_set mask m.sets) (λ s w. has_way mask w) (λ s w own there. sym (ap (λ b. b && has_way mask w) (lt-ltb s m.sets own.0))) before
