-- What an access leaves of the places and the counts of a slice.
use Rattle.std.proofs.Common.{◌≡◌, ℕ, ◌+◌, ◌/◌, ◌%◌, ◌<◌, ◌==◌, Bool, true, false, cond, List, [], length, Option, Some, None, option_map, slice_set, refl, sym, ◌∙◌, ap, subst, arith, inl, inr}
use Rattle.std.specs.Prelude.{slice_index}
use Rattle.std.proofs.lemmas.Bool.{cases_Bool, cases_lt, cond-true, eq-eqb, eqb-true}
use Rattle.std.proofs.Math.ListN.{get_or-eq_default}
use Rattle.cache_core.specs.declared.cached_line.CachedLine.{CachedLine}
use Rattle.cache_core.specs.declared.touched.Touched.{Touched}
use Rattle.cache_core.specs.declared.touched.Touched.TheVariants.{Hit, Filled, Stale}
use Rattle.cache_core.specs.RmidCounts.{Recounts, is_rmid}
use Rattle.cache_core.specs.Filled.{places_with}
use Rattle.cache_core.specs.History.{Shape, IsOwn, is_own, is_of}
use Rattle.cache_core.specs.Kept.{IsKept, residents, spread}
use Rattle.cache_core.specs.Places.{IsFormed, set_in, place_in, resident_in}
use Rattle.cache_core.specs.Stands.{Touches}
use Rattle.lists.specs.Sums.{one_if}
use Rattle.cache_core.proofs.Counts.{places_with-exchanged}
use Rattle.cache_core.proofs.Formed.{IsFormed-slice_set}
use Rattle.cache_core.proofs.KeptPlaces.{res, get_or-set}
use Rattle.cache_core.proofs.Spread.{length-spread, set_in-spread_own, spread-slice_set}
use Rattle.cache_core.proofs.laws.Places.{places_with-same}

-- an own set has every way
pub length-kept_set : (m : Shape) (rmids clock : ℕ) (own : List (List (Option CachedLine))) (counts : List ℕ) (shift set : ℕ) → IsKept m rmids clock own counts shift → IsOwn m set → length (set_in own (set / m.slices)) ≡ m.ways
length-kept_set m rmids clock own counts shift set kept is =
    ap length (sym (set_in-spread_own m own set is)) ∙ (kept.formed.widths set is.0 ∙ cond-true (is_own m set) m.ways 0 (eq-eqb (set % m.slices) m.slice is.1))

-- and is kept
pub lt-kept_set : (m : Shape) (rmids clock : ℕ) (own : List (List (Option CachedLine))) (counts : List ℕ) (shift set : ℕ) → IsKept m rmids clock own counts shift → IsOwn m set → 0 < m.ways → set / m.slices < length own
lt-kept_set m rmids clock own counts shift set kept is some = elim (cases_lt (set / m.slices) (length own)) [
  | inl less ↦ less
  | inr past ↦ absurd (let none : length (set_in own (set / m.slices)) ≡ 0 = ap length (get_or-eq_default own [] past) in omega (arith, none, some, length-kept_set m rmids clock own counts shift set kept is))
]

-- a place after a change of one set
residents-slice_set : (places : List (List (Option CachedLine))) (s : ℕ) (changed : List (Option CachedLine)) (t w : ℕ) → s < length places → residents (slice_set places s changed) t w ≡ cond (s == t) (resident_in changed w) (residents places t w)
residents-slice_set places s changed t w within = ap (λ ps. resident_in ps w) (get_or-set places s t changed [] within) ∙ go (s == t)
  where
    go : (b : Bool) → resident_in (cond b changed (set_in places t)) w ≡ cond b (resident_in changed w) (residents places t w)
    go true = refl
    go false = refl

-- a new stamp leaves what a place holds
res-marked : (o : Option CachedLine) (stamp : ℕ) → res (option_map (λ (p : CachedLine). record p { used = stamp }) o) ≡ res o
res-marked None stamp = refl
res-marked (Some p) stamp = refl

-- a way after a change of one way
resident_in-slice_set : (row : List (Option CachedLine)) (way w : ℕ) (o : Option CachedLine) → way < length row → resident_in (slice_set row way o) w ≡ cond (way == w) (res o) (resident_in row w)
resident_in-slice_set row way w o within = ap res (get_or-set row way w o None within) ∙ go (way == w)
  where
    go : (b : Bool) → res (cond b o (place_in row w)) ≡ cond b (res o) (resident_in row w)
    go true = refl
    go false = refl

-- whether what a place held has the RMID
is_of-res : (rmid : ℕ) (o : Option CachedLine) → is_of rmid (res o) ≡ is_rmid (option_map (λ (p : CachedLine). p.rmid) o) rmid
is_of-res rmid None = refl
is_of-res rmid (Some p) = refl

-- the counts after a change of a way of a set
pub counts-changed : (m : Shape) (places : List (List (Option CachedLine))) (counts new : List ℕ) (s way : ℕ) (o : Option CachedLine) (changed : List (Option CachedLine)) (rmid : ℕ)
    → IsOwn m s → s < length places → length (set_in places s) ≡ m.ways → way < length (set_in places s) → changed ≡ slice_set (set_in places s) way o
    → slice_index new rmid + one_if (is_rmid (option_map (λ (p : CachedLine). p.rmid) (place_in (set_in places s) way)) rmid) ≡ slice_index counts rmid + one_if (is_rmid (option_map (λ (p : CachedLine). p.rmid) o) rmid)
    → slice_index counts rmid ≡ places_with m (is_of rmid) (residents places) → slice_index new rmid ≡ places_with m (is_of rmid) (residents (slice_set places s changed))
counts-changed m places counts new s way o changed rmid own within width inside is recount was =
    let row : List (Option CachedLine) = set_in places s in
    let read : (k w : ℕ) → residents (slice_set places s changed) k w ≡ cond (s == k) (cond (way == w) (res o) (resident_in row w)) (residents places k w) = λ k w.
    residents-slice_set places s changed k w within ∙ ap (λ o. cond (s == k) o (residents places k w)) (ap (λ ps. resident_in ps w) is ∙ resident_in-slice_set row way w o inside) in
    let here : residents (slice_set places s changed) s way ≡ res o = read s way ∙ (ap (λ b. cond b (cond (way == way) (res o) (resident_in row way)) (residents places s way)) (eq-eqb s s refl) ∙ ap (λ b. cond b (res o) (resident_in row way)) (eq-eqb way way refl)) in
    let same : (k w : ℕ) → ((k ≡ s) × (w ≡ way) → ⊥) → residents (slice_set places s changed) k w ≡ residents places k w = λ k w apart. read k w
    ∙ (elim (cases_Bool (s == k)) [
      | inl e ↦ elim (cases_Bool (way == w)) [
        | inl e' ↦ absurd (apart (sym (eqb-true s k e), sym (eqb-true way w e')))
        | inr e' ↦ rw (e, e') (ap (λ j. residents places j w) (eqb-true s k e))
      ]
      | inr e ↦ rw e refl
    ]) in
    let counted : places_with m (is_of rmid) (residents (slice_set places s changed)) + one_if (is_of rmid (residents places s way)) ≡ places_with m (is_of rmid) (residents places) + one_if (is_of rmid (residents (slice_set places s changed) s way)) =
    places_with-exchanged m (is_of rmid) (residents places) (residents (slice_set places s changed)) s way own (omega (arith, inside, width)) same in
    let left : one_if (is_of rmid (residents places s way)) ≡ one_if (is_rmid (option_map (λ (p : CachedLine). p.rmid) (place_in row way)) rmid) = ap one_if (is_of-res rmid (place_in row way)) in
    let put : one_if (is_of rmid (residents (slice_set places s changed) s way)) ≡ one_if (is_rmid (option_map (λ (p : CachedLine). p.rmid) o) rmid) = ap (λ o. one_if (is_of rmid o)) here ∙ ap one_if (is_of-res rmid o) in
    omega (arith, recount, counted, left, put, was)

-- the counts after an access to a set
counts-touched : (m : Shape) (places : List (List (Option CachedLine))) (counts new : List ℕ) (s mask : ℕ) (place : CachedLine) (changed : List (Option CachedLine)) (answer : Touched) (rmid : ℕ)
    → IsOwn m s → s < length places → length (set_in places s) ≡ m.ways
    → Touches (set_in places s) changed mask place answer → Recounts counts new (set_in places s) place answer
    → slice_index counts rmid ≡ places_with m (is_of rmid) (residents places) → slice_index new rmid ≡ places_with m (is_of rmid) (residents (slice_set places s changed))
counts-touched m places counts new s mask place changed (Hit way) rmid own within width t recounts was =
    let row : List (Option CachedLine) = set_in places s in
    let same : (w : ℕ) → resident_in changed w ≡ resident_in row w = λ w.
    ap (λ ps. resident_in ps w) t.2
    ∙ (resident_in-slice_set row way w (option_map (λ (p : CachedLine). record p { used = place.used }) (place_in row way)) t.0
    ∙ (elim (cases_Bool (way == w)) [
      | inl e ↦ rw e (res-marked (place_in row way) place.used ∙ ap (resident_in row) (eqb-true way w e))
      | inr e ↦ rw e refl
    ])) in
    ap (λ cs. slice_index cs rmid) recounts
    ∙ (was
    ∙ places_with-same m (is_of rmid) (residents places) (residents (slice_set places s changed))
    (λ k w _ _. sym (residents-slice_set places s changed k w within
    ∙ (elim (cases_Bool (s == k)) [
      | inl e ↦ rw e (same w ∙ ap (λ j. residents places j w) (eqb-true s k e))
      | inr e ↦ rw e refl
    ]))))
counts-touched m places counts new s mask place changed (Filled way) rmid own within width t recounts was = counts-changed m places counts new s way (Some place) changed rmid own within width t.1.within t.2 (recounts rmid) was
counts-touched m places counts new s mask place changed (Stale floor) rmid own within width t recounts was = absurd t

-- the domain's sets after a change of a kept one
pub spread-touched : (m : Shape) (rmids clock : ℕ) (own now : List (List (Option CachedLine))) (counts : List ℕ) (shift s : ℕ) → IsKept m rmids clock own counts shift → IsOwn m s → 0 < m.ways
    → now ≡ slice_set own (s / m.slices) (set_in now (s / m.slices)) → spread m now ≡ slice_set (spread m own) s (set_in now (s / m.slices))
spread-touched m rmids clock own now counts shift s kept is some set = ap (spread m) set ∙ spread-slice_set m own s (set_in now (s / m.slices)) is (lt-kept_set m rmids clock own counts shift s kept is some)

-- an access leaves the places in order, and the counts theirs
pub IsKept-touched : (m : Shape) (rmids clock : ℕ) (own now : List (List (Option CachedLine))) (counts new : List ℕ) (shift s mask : ℕ) (place : CachedLine) (answer : Touched)
    → IsKept m rmids clock own counts shift → IsOwn m s → 0 < m.ways → place.used ≡ clock → place.rmid < rmids → now ≡ slice_set own (s / m.slices) (set_in now (s / m.slices))
    → Touches (set_in own (s / m.slices)) (set_in now (s / m.slices)) mask place answer → length new ≡ length counts → Recounts counts new (set_in own (s / m.slices)) place answer
    → IsKept m rmids (clock + 1) now new shift
IsKept-touched m rmids clock own now counts new shift s mask place answer kept is some used named set t size recounts =
    let places : List (List (Option CachedLine)) = spread m own in
    let changed : List (Option CachedLine) = set_in now (s / m.slices) in
    let row : set_in places s ≡ set_in own (s / m.slices) = set_in-spread_own m own s is in
    let all : spread m now ≡ slice_set places s changed = spread-touched m rmids clock own now counts shift s kept is some set in
    let within : s < length places = omega (arith, is.0, length-spread m own) in
    let touched : Touches (set_in places s) changed mask place answer = subst (λ ps. Touches ps changed mask place answer) (sym row) t in
    let counted : Recounts counts new (set_in places s) place answer = subst (λ ps. Recounts counts new ps place answer) (sym row) recounts in
    record {
      formed = subst (IsFormed m rmids (clock + 1)) (sym all) (IsFormed-slice_set m rmids clock places s mask place (set_in places s) changed answer kept.formed is.0 refl used named touched);
      narrow = kept.narrow;
      inside = kept.inside;
      power = kept.power;
      known = size ∙ kept.known;
      counted = λ rmid l. counts-touched m places counts new s mask place changed answer rmid is within (ap length row ∙ length-kept_set m rmids clock own counts shift s kept is) touched counted (kept.counted rmid l) ∙ ap (λ ps. places_with m (is_of rmid) (residents ps)) (sym all);
    }
