-- What is read of the sets of a slice that are renewed when they are touched.
use Rattle.std.proofs.Common.{◌≡◌, ℕ, ◌<◌, ◌≤◌, ◌==◌, ◌⊎◌, Bool, true, false, cond, List, [], length, Option, None, refl, sym, ◌∙◌, ap, arith, inl, inr}
use Rattle.std.specs.Prelude.{slice_index}
use Rattle.std.proofs.lemmas.Bool.{cases_Bool, cases_lt, cond-true, cond-false, eqb-true, eq-eqb}
use Rattle.std.proofs.lemmas.List.{ext_get_or}
use Rattle.std.proofs.lemmas.List.FromFn.{get_or-map-range_with_len, length-map-range_with_len}
use Rattle.std.proofs.Math.ListN.{get_or-eq_default}
use Rattle.cache_core.specs.declared.emptied.Emptied.{Emptied}
use Rattle.cache_core.specs.declared.emptied.Emptied.TheVariants.{Flushed}
use Rattle.cache_core.specs.declared.cached_line.CachedLine.{CachedLine}
use Rattle.cache_core.specs.Lazy.{LazyValue, lazy_sets, left_place, left_set}
use Rattle.cache_core.specs.Places.{place_in, set_in}

-- ---- what an emptying leaves

-- how many ways a set has
pub length-left_set : (emptied : Emptied) (set ways : ℕ) → length (left_set emptied set ways) ≡ ways
unfolding left_set
length-left_set emptied set ways = length-map-range_with_len (left_place emptied set) 0 ways

-- a way of a set
pub place_in-left_set : (emptied : Emptied) (set ways way : ℕ) → way < ways → place_in (left_set emptied set ways) way ≡ left_place emptied set way
unfolding left_set
place_in-left_set emptied set ways way within = get_or-map-range_with_len (left_place emptied set) 0 ways way way None within (omega arith)

-- a set by its ways
pub left_set-ways : (emptied : Emptied) (set : ℕ) (row : List (Option CachedLine)) → ((way : ℕ) → way < length row → place_in row way ≡ left_place emptied set way) → row ≡ left_set emptied set (length row)
left_set-ways emptied set row each =
    ext_get_or None row (left_set emptied set (length row)) (sym (length-left_set emptied set (length row)))
    (λ i l. each i l ∙ sym (place_in-left_set emptied set (length row) i l))

-- ---- reads

-- a set, by what is stored of it
abbrev pub lazy_set : Emptied → List (List (Option CachedLine)) → List ℕ → ℕ → ℕ → List (Option CachedLine)
lazy_set emptied stored renewed generation set = cond (slice_index renewed set == generation) (set_in stored set) (left_set emptied set (length (set_in stored set)))

-- how many sets there are
pub length-lazy_sets : (emptied : Emptied) (stored : List (List (Option CachedLine))) (renewed : List ℕ) (generation : ℕ) → length (lazy_sets emptied stored renewed generation) ≡ length stored
unfolding lazy_sets
length-lazy_sets emptied stored renewed generation = length-map-range_with_len (lazy_set emptied stored renewed generation) 0 (length stored)

-- a set
pub set_in-lazy_sets : (emptied : Emptied) (stored : List (List (Option CachedLine))) (renewed : List ℕ) (generation set : ℕ) → set < length stored
    → set_in (lazy_sets emptied stored renewed generation) set ≡ lazy_set emptied stored renewed generation set
unfolding lazy_sets
set_in-lazy_sets emptied stored renewed generation set within = get_or-map-range_with_len (lazy_set emptied stored renewed generation) 0 (length stored) set set [] within (omega arith)

-- a set that was renewed is as it is stored
pub set_in-renewed : (emptied : Emptied) (stored : List (List (Option CachedLine))) (renewed : List ℕ) (generation set : ℕ) → set < length stored → slice_index renewed set ≡ generation
    → set_in (lazy_sets emptied stored renewed generation) set ≡ set_in stored set
set_in-renewed emptied stored renewed generation set within is =
    set_in-lazy_sets emptied stored renewed generation set within ∙ cond-true (slice_index renewed set == generation) (set_in stored set) (left_set emptied set (length (set_in stored set))) (eq-eqb (slice_index renewed set) generation is)

-- one that is behind is as the last emptying left it
pub set_in-behind : (emptied : Emptied) (stored : List (List (Option CachedLine))) (renewed : List ℕ) (generation set : ℕ) → set < length stored → slice_index renewed set < generation
    → set_in (lazy_sets emptied stored renewed generation) set ≡ left_set emptied set (length (set_in stored set))
set_in-behind emptied stored renewed generation set within less =
    set_in-lazy_sets emptied stored renewed generation set within
    ∙ cond-false (slice_index renewed set == generation) (set_in stored set) (left_set emptied set (length (set_in stored set))) (apart (cases_Bool (slice_index renewed set == generation)))
  where
    apart : ((slice_index renewed set == generation) ≡ true) ⊎ ((slice_index renewed set == generation) ≡ false) → (slice_index renewed set == generation) ≡ false
    apart (inl e) = absurd (let same : slice_index renewed set ≡ generation = eqb-true (slice_index renewed set) generation e in omega arith)
    apart (inr e) = e

-- each set has its ways
pub length-set_in_lazy : (emptied : Emptied) (stored : List (List (Option CachedLine))) (renewed : List ℕ) (generation set : ℕ) → length (set_in (lazy_sets emptied stored renewed generation) set) ≡ length (set_in stored set)
length-set_in_lazy emptied stored renewed generation set = elim (cases_lt set (length stored)) [
  | inl inside ↦ ap length (set_in-lazy_sets emptied stored renewed generation set inside) ∙ go (slice_index renewed set == generation)
  | inr past ↦
      let none : set_in stored set ≡ [] = get_or-eq_default stored [] past in
      let size : length (lazy_sets emptied stored renewed generation) ≡ length stored = length-lazy_sets emptied stored renewed generation in
      ap length (get_or-eq_default (lazy_sets emptied stored renewed generation) [] (omega arith)) ∙ sym (ap length none)
]
  where
    go : (b : Bool) → length (cond b (set_in stored set) (left_set emptied set (length (set_in stored set)))) ≡ length (set_in stored set)
    go true = refl
    go false = length-left_set emptied set (length (set_in stored set))

-- a set that contracts see is stored
pub lt-view : (emptied : Emptied) (stored : List (List (Option CachedLine))) (renewed : List ℕ) (generation set : ℕ) (now : LazyValue) → (let v : LazyValue = record { places = lazy_sets emptied stored renewed generation; generation = generation } in v) ≡ now
    → set < length now.places → set < length stored
lt-view emptied stored renewed generation set now is within =
    let e : length (lazy_sets emptied stored renewed generation) ≡ length now.places = ap (λ (v : LazyValue). length v.places) is in
    omega (arith, e, length-lazy_sets emptied stored renewed generation, within)

-- a way of a set that is behind
pub place_in-behind : (emptied : Emptied) (stored : List (List (Option CachedLine))) (renewed : List ℕ) (generation set way : ℕ) → slice_index renewed set < generation → way < length (set_in stored set)
    → place_in (set_in (lazy_sets emptied stored renewed generation) set) way ≡ left_place emptied set way
place_in-behind emptied stored renewed generation set way less inside = elim (cases_lt set (length stored)) [
  | inl within ↦ ap (λ ps. place_in ps way) (set_in-behind emptied stored renewed generation set within less) ∙ place_in-left_set emptied set (length (set_in stored set)) way inside
  | inr past ↦ absurd (let none : length (set_in stored set) ≡ 0 = ap length (get_or-eq_default stored [] past) in omega arith)
]

-- a way past the last
place_in-beyond : (emptied : Emptied) (stored : List (List (Option CachedLine))) (renewed : List ℕ) (generation set way : ℕ) → length (set_in stored set) ≤ way → place_in (set_in (lazy_sets emptied stored renewed generation) set) way ≡ None
place_in-beyond emptied stored renewed generation set way past =
    let width : length (set_in (lazy_sets emptied stored renewed generation) set) ≡ length (set_in stored set) = length-set_in_lazy emptied stored renewed generation set in
    get_or-eq_default (set_in (lazy_sets emptied stored renewed generation) set) None (omega arith)

-- no way holds a line where all are behind a flush
pub place_in-flushed : (stored : List (List (Option CachedLine))) (renewed : List ℕ) (generation set way : ℕ) → slice_index renewed set < generation → place_in (set_in (lazy_sets Flushed stored renewed generation) set) way ≡ None
place_in-flushed stored renewed generation set way less = elim (cases_lt way (length (set_in stored set))) [
  | inl inside ↦ place_in-behind Flushed stored renewed generation set way less inside
  | inr past ↦ place_in-beyond Flushed stored renewed generation set way past
]

-- nor where all were renewed, and none is stored
pub place_in-empty : (emptied : Emptied) (stored : List (List (Option CachedLine))) (renewed : List ℕ) (generation set way : ℕ) → slice_index renewed set ≡ generation → ((s w : ℕ) → place_in (set_in stored s) w ≡ None)
    → place_in (set_in (lazy_sets emptied stored renewed generation) set) way ≡ None
place_in-empty emptied stored renewed generation set way is none = elim (cases_lt set (length stored)) [
  | inl within ↦ ap (λ ps. place_in ps way) (set_in-renewed emptied stored renewed generation set within is) ∙ none set way
  | inr past ↦ place_in-beyond emptied stored renewed generation set way (let no_way : length (set_in stored set) ≡ 0 = ap length (get_or-eq_default stored [] past) in omega arith)
]
