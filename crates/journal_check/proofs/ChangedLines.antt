-- Counts of lines after a change of one place.
use Rattle.std.proofs.Common.{◌≡◌, ℕ, ◌+◌, ◌<◌, ◌==◌, ◌&&◌, inl, inr, cond, true, Option, None, refl, sym, ap, ◌∙◌, subst, arith}
use Rattle.std.proofs.lemmas.Bool.{cases_Bool, eq-eqb, eqb-true}
use Rattle.cache_core.proofs.laws.Places.{places_with-changed, places_with-same}
use Rattle.cache_core.specs.Filled.{places_with}
use Rattle.cache_core.specs.Fills.{Resident}
use Rattle.cache_core.specs.History.{IsOwn, Shape, is_of}
use Rattle.lists.specs.Sums.{one_if}

module _ (m : Shape) (r : ℕ) (old new : ℕ → ℕ → Option Resident) (set way : ℕ) (same : (s w : ℕ) → ((s ≡ set) × (w ≡ way) → ⊥) → new s w ≡ old s w) where
  -- with the place emptied
  abbrev emptied : ℕ → ℕ → Option Resident
  emptied s w = cond ((s == set) && (w == way)) None (old s w)

  emptied-own : emptied set way ≡ None
  emptied-own = rw (eq-eqb set set refl, eq-eqb way way refl) refl

  emptied-other : (s w : ℕ) → ((s ≡ set) × (w ≡ way) → ⊥) → emptied s w ≡ old s w
  emptied-other s w apart = elim (cases_Bool (s == set)) [
    | inl here ↦ elim (cases_Bool (w == way)) [
      | inl there ↦ absurd (apart (eqb-true s set here, eqb-true w way there))
      | inr other ↦ rw (here, other) refl
    ]
    | inr other ↦ rw other refl
  ]

  -- it has no line
  none-of : one_if (is_of r (emptied set way)) ≡ 0
  none-of = ap (λ (o : Option Resident). one_if (is_of r o)) emptied-own

  -- an RMID has a line less where it left the place, and one more where it came there
  pub places_with-written : IsOwn m set → way < m.ways → places_with m (is_of r) new + one_if (is_of r (old set way)) ≡ places_with m (is_of r) old + one_if (is_of r (new set way))
  places_with-written own inside =
      let before : places_with m (is_of r) old ≡ places_with m (is_of r) emptied + one_if (is_of r (old set way)) =
      places_with-changed m (is_of r) emptied old set way (one_if (is_of r (old set way))) own inside (λ s w apart. sym (emptied-other s w apart)) (omega (arith, none-of)) in
      let after : places_with m (is_of r) new ≡ places_with m (is_of r) emptied + one_if (is_of r (new set way)) =
      places_with-changed m (is_of r) emptied new set way (one_if (is_of r (new set way))) own inside (λ s w apart. same s w apart ∙ sym (emptied-other s w apart)) (omega (arith, none-of)) in
      omega (arith, before, after)

  -- a set of another slice counts nothing
  pub places_with-foreign : (IsOwn m set → ⊥) → places_with m (is_of r) new ≡ places_with m (is_of r) old
  places_with-foreign foreign = places_with-same m (is_of r) new old (λ s w own inside. same s w (λ both. foreign (own_set s both.0 own)))
    where
      own_set : (s : ℕ) → s ≡ set → IsOwn m s → IsOwn m set
      own_set s is own = subst (IsOwn m) is own

  -- where the place holds a line of it there is one
  pub places_with-some : IsOwn m set → way < m.ways → is_of r (old set way) ≡ true → 0 < places_with m (is_of r) old
  places_with-some own inside has =
      let before : places_with m (is_of r) old ≡ places_with m (is_of r) emptied + one_if (is_of r (old set way)) =
      places_with-changed m (is_of r) emptied old set way (one_if (is_of r (old set way))) own inside (λ s w apart. sym (emptied-other s w apart)) (omega (arith, none-of)) in
      let one : one_if (is_of r (old set way)) ≡ 1 = ap one_if has in
      omega (arith, before, one)
