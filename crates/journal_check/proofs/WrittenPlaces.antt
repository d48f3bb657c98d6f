-- Places after one of them is written.
use Rattle.std.proofs.Common.{◌≡◌, ℕ, ◌+◌, ◌*◌, ◌/◌, ◌<◌, cond, List, set, Option, Some, None, refl, sym, ap, ◌∙◌, arith}
use Rattle.std.specs.Prelude.{option_and_then, slice_get, unwrap_or}
use Rattle.std.proofs.lemmas.Bool.{eq-eqb}
use Rattle.std.proofs.lemmas.Nat.{div-mul-add}
use Rattle.cache_core.specs.History.{Shape}
use Rattle.journal_check.specs.declared.cached_line.CachedLine.{CachedLine}
use Rattle.lists.proofs.Updates.{slice_get-set_same, slice_get-set_other}
use Rattle.journal_check.specs.Slots.{Puts, SlotsValue, left_place, of_generation, place_at}
use Rattle.journal_check.specs.declared.region.Region.{Region}
use Rattle.journal_check.specs.declared.slot.Slot.{Slot}

-- two places with one number are one
same-place : (ways s w t u : ℕ) → w < ways → u < ways → s * ways + w ≡ t * ways + u → (s ≡ t) × (w ≡ u)
same-place ways s w t u less below same =
    let set_is : s ≡ t = sym (div-mul-add s ways w less) ∙ (ap (λ n. n / ways) same ∙ div-mul-add t ways u below) in
    let row : s * ways ≡ t * ways = ap (λ n. n * ways) set_is in
    (set_is, omega arith)

-- what a place holds, by its parts
abbrev by_parts : Shape → List Slot → ℕ → Region → ℕ → ℕ → Option CachedLine
by_parts m slots generation region s w = unwrap_or (option_and_then (of_generation generation) (slice_get slots (s * m.ways + w))) (left_place m region s w)

module _ (old new : SlotsValue) (s w : ℕ) (place : Option CachedLine) (puts : Puts old new s w place) where
  abbrev changed : List Slot
  changed = set old.slots (s * old.shape.ways + w) (record { generation = old.generation; place = place })

  -- a place after the change
  place_at-parts : (t u : ℕ) → place_at new t u ≡ by_parts old.shape changed old.generation old.region t u
  place_at-parts t u =
      ap (λ m. by_parts m new.slots new.generation new.region t u) puts.shape
      ∙ (ap (λ (xs : List Slot). by_parts old.shape xs new.generation new.region t u) puts.slots
      ∙ (ap (λ g. by_parts old.shape changed g new.region t u) puts.generation
      ∙ ap (λ r. by_parts old.shape changed old.generation r t u) puts.region))

  -- the place that is written
  pub place_at-own : place_at new s w ≡ place
  place_at-own =
      place_at-parts s w
      ∙ (ap (λ (o : Option Slot). unwrap_or (option_and_then (of_generation old.generation) o) (left_place old.shape old.region s w)) (slice_get-set_same old.slots (s * old.shape.ways + w) (record { generation = old.generation; place = place }) puts.there)
      ∙ ap (λ b. unwrap_or (cond b (Some place) None) (left_place old.shape old.region s w)) (eq-eqb old.generation old.generation refl))

  -- the others
  pub place_at-other : (t u : ℕ) → w < old.shape.ways → u < old.shape.ways → ((t ≡ s) × (u ≡ w) → ⊥) → place_at new t u ≡ place_at old t u
  place_at-other t u less below apart =
      place_at-parts t u
      ∙ ap (λ (o : Option Slot). unwrap_or (option_and_then (of_generation old.generation) o) (left_place old.shape old.region t u))
      (slice_get-set_other old.slots (s * old.shape.ways + w) (t * old.shape.ways + u) (record { generation = old.generation; place = place }) (λ same. apart (same-place old.shape.ways t u s w below less same)))
