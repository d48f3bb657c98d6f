-- What is read of the sets of a slice that flat vectors keep, and how a change of one way changes them.
use Rattle.std.proofs.Common.{◌≡◌, ◌≢◌, ℕ, ◌+◌, ◌*◌, ◌<◌, ◌≤◌, ◌==◌, List, [], length, Option, None, set, slice_set, sym, ◌∙◌, ap, subst, arith, inl, inr}
use Rattle.std.specs.Prelude.{slice_index}
use Rattle.std.proofs.lemmas.Bool.{cases_Bool, cases_lt, eqb-true, eqb-false}
use Rattle.std.proofs.Math.Nat.{mul-le-mul_right}
use Rattle.std.proofs.lemmas.List.{ext_get_or, length-set}
use Rattle.std.proofs.lemmas.List.FromFn.{get_or-map-range_with_len, length-map-range_with_len}
use Rattle.cache_core.specs.declared.cached_line.CachedLine.{CachedLine}
use Rattle.cache_core.specs.Flat.{Flat, flat_place, flat_set, flat_sets}
use Rattle.cache_core.specs.Places.{set_in, place_in}
use Rattle.cache_core.proofs.KeptPlaces.{get_or-set}

-- ---- places of ways

-- the place of a way is inside
pub lt-place : (n ways set way : ℕ) → set < n → way < ways → set * ways + way < n * ways
lt-place n ways set way within inside = let rest : (set + 1) * ways ≤ n * ways = mul-le-mul_right ways (omega arith) in let split : (set + 1) * ways ≡ set * ways + ways = omega arith in omega arith

-- all the places of a set are
pub le-places : (n ways set : ℕ) → set < n → set * ways + ways ≤ n * ways
le-places n ways set within = let rest : (set + 1) * ways ≤ n * ways = mul-le-mul_right ways (omega arith) in let split : (set + 1) * ways ≡ set * ways + ways = omega arith in omega arith

-- two ways have two places
pub place-apart : (ways s w t v : ℕ) → w < ways → v < ways → ((t ≡ s) × (v ≡ w) → ⊥) → t * ways + v ≢ s * ways + w
place-apart ways s w t v within inside apart same = elim (cases_lt s t) [
  | inl less ↦ absurd (let rest : (s + 1) * ways ≤ t * ways = mul-le-mul_right ways (omega arith) in let split : (s + 1) * ways ≡ s * ways + ways = omega arith in omega arith)
  | inr more ↦ elim (cases_lt t s) [
    | inl less ↦ absurd (let rest : (t + 1) * ways ≤ s * ways = mul-le-mul_right ways (omega arith) in let split : (t + 1) * ways ≡ t * ways + ways = omega arith in omega arith)
    | inr back ↦ let is : t ≡ s = omega arith in let e : t * ways ≡ s * ways = ap (λ k. k * ways) is in apart (is, omega arith)
  ]
]

-- ---- reads

-- what a way of the flat vectors has
abbrev pub here_in : Flat → ℕ → ℕ → CachedLine
here_in f set way = record { line = slice_index f.lines (set * f.ways + way); rmid = slice_index f.rmids (set * f.ways + way); used = slice_index f.used (set * f.ways + way) }

-- how many sets there are
pub length-flat_sets : (f : Flat) → length (flat_sets f) ≡ length f.valid
unfolding flat_sets
length-flat_sets f = length-map-range_with_len (flat_set f) 0 (length f.valid)

-- how many ways a set has
pub length-flat_set : (f : Flat) (set : ℕ) → length (flat_set f set) ≡ f.ways
unfolding flat_set
length-flat_set f set = length-map-range_with_len (flat_place f set) 0 f.ways

-- a set
pub set_in-flat_sets : (f : Flat) (set : ℕ) → set < length f.valid → set_in (flat_sets f) set ≡ flat_set f set
unfolding flat_sets
set_in-flat_sets f set within = get_or-map-range_with_len (flat_set f) 0 (length f.valid) set set [] within (omega arith)

-- a way of a set
pub place_in-flat_set : (f : Flat) (set way : ℕ) → way < f.ways → place_in (flat_set f set) way ≡ flat_place f set way
unfolding flat_set
place_in-flat_set f set way within = get_or-map-range_with_len (flat_place f set) 0 f.ways way way None within (omega arith)

-- ---- changes

-- a set of which each way is the same
pub flat_set-same : (f g : Flat) (set : ℕ) → g.ways ≡ f.ways → ((way : ℕ) → way < f.ways → flat_place g set way ≡ flat_place f set way) → flat_set g set ≡ flat_set f set
flat_set-same f g set ways same =
    ext_get_or None (flat_set g set) (flat_set f set) (length-flat_set g set ∙ (ways ∙ sym (length-flat_set f set)))
    (λ i l.
    let within : i < g.ways = subst (λ n. i < n) (length-flat_set g set) l in
    let inside : i < f.ways = omega arith in
    place_in-flat_set g set i within ∙ (same i inside ∙ sym (place_in-flat_set f set i inside)))

-- a set of which one way is another
flat_set-changed : (f g : Flat) (set way : ℕ) (o : Option CachedLine) → g.ways ≡ f.ways → way < f.ways → flat_place g set way ≡ o
    → ((v : ℕ) → v < f.ways → v ≢ way → flat_place g set v ≡ flat_place f set v) → flat_set g set ≡ slice_set (flat_set f set) way o
flat_set-changed f g set way o ways within here same =
    let inside : way < length (flat_set f set) = subst (λ n. way < n) (sym (length-flat_set f set)) within in
    ext_get_or None (flat_set g set) (slice_set (flat_set f set) way o) (length-flat_set g set ∙ (ways ∙ (sym (length-flat_set f set) ∙ sym (length-set (flat_set f set) way o))))
    (λ i l.
    let less : i < g.ways = subst (λ n. i < n) (length-flat_set g set) l in
    let i_in : i < f.ways = omega arith in
    place_in-flat_set g set i less
    ∙ ((elim (cases_Bool (way == i)) [
      | inl e ↦ let is : way ≡ i = eqb-true way i e in rw e (ap (λ k. flat_place g set k) (sym is) ∙ here)
      | inr e ↦ rw e (same i i_in (λ is. eqb-false way i e (sym is)) ∙ sym (place_in-flat_set f set i i_in))
    ]) ∙ sym (get_or-set (flat_set f set) way i o None inside)))

-- the sets, of which one is another
pub flat_sets-replaced : (f g : Flat) (set : ℕ) (row : List (Option CachedLine)) → length g.valid ≡ length f.valid → set < length f.valid → flat_set g set ≡ row
    → ((t : ℕ) → t ≢ set → flat_set g t ≡ flat_set f t) → flat_sets g ≡ slice_set (flat_sets f) set row
flat_sets-replaced f g set row count within here same =
    let at : set < length (flat_sets f) = subst (λ n. set < n) (sym (length-flat_sets f)) within in
    ext_get_or [] (flat_sets g) (slice_set (flat_sets f) set row) (length-flat_sets g ∙ (count ∙ (sym (length-flat_sets f) ∙ sym (length-set (flat_sets f) set row))))
    (λ i l.
    let less : i < length g.valid = subst (λ n. i < n) (length-flat_sets g) l in
    let i_in : i < length f.valid = omega arith in
    set_in-flat_sets g i less
    ∙ ((elim (cases_Bool (set == i)) [
      | inl e ↦ rw e (ap (λ k. flat_set g k) (sym (eqb-true set i e)) ∙ here)
      | inr e ↦ rw e (same i (λ is. eqb-false set i e (sym is)) ∙ sym (set_in-flat_sets f i i_in))
    ]) ∙ sym (get_or-set (flat_sets f) set i row [] at)))

-- the sets, of which one way is another
pub flat_sets-changed : (f g : Flat) (set way : ℕ) (o : Option CachedLine) → length g.valid ≡ length f.valid → g.ways ≡ f.ways → set < length f.valid → way < f.ways → flat_place g set way ≡ o
    → ((t v : ℕ) → v < f.ways → ((t ≡ set) × (v ≡ way) → ⊥) → flat_place g t v ≡ flat_place f t v)
    → flat_sets g ≡ slice_set (flat_sets f) set (slice_set (set_in (flat_sets f) set) way o)
flat_sets-changed f g set way o count ways within inside here same =
    flat_sets-replaced f g set (slice_set (set_in (flat_sets f) set) way o) count within
    (flat_set-changed f g set way o ways inside here (λ v lv apart. same set v lv (λ both. apart both.1)) ∙ ap (λ ps. slice_set ps way o) (sym (set_in-flat_sets f set within)))
    (λ t apart. flat_set-same f g t ways (λ v lv. same t v lv (λ both. apart both.0)))
