-- What a set answers, by its history and by its places.
use Rattle.std.proofs.Common.{◌≡◌, ◌↔◌, ℕ, ◌<◌, Bool, true, false, Option, Some, None, refl, sym, ap, ◌∙◌, subst, arith, List}
use Rattle.std.specs.Prelude.{IsSome, option_map}
use Rattle.cache_core.specs.Fills.{IsOutcome, IsPlaceOf, IsVictim, Resident}
use Rattle.cache_core.specs.History.{held, used}
use Rattle.cache_core.specs.declared.entry.SliceEntry.{SliceEntry}
use Rattle.journal_check.specs.declared.cached_line.CachedLine.{CachedLine}
use Rattle.journal_check.specs.Outcomes.{ages_at, residents_at}
use Rattle.journal_check.specs.Replays.{StandsFor}
use Rattle.journal_check.specs.Slots.{age_of, place_at, resident_of}
use Rattle.journal_check.specs.declared.replay.Replay.{Replay}

module _ (ways : ℕ) (a b : ℕ → Option Resident) (old young : ℕ → ℕ) (same : (w : ℕ) → w < ways → a w ≡ b w) (aged : (w : ℕ) → w < ways → IsSome (a w) → old w ≡ young w) where
  some-to : (w : ℕ) → w < ways → IsSome (a w) → IsSome (b w)
  some-to w less = subst (λ (o : Option Resident). IsSome o) (same w less)

  some-back : (w : ℕ) → w < ways → IsSome (b w) → IsSome (a w)
  some-back w less = subst (λ (o : Option Resident). IsSome o) (sym (same w less))

  holds-back : (line w : ℕ) → w < ways → option_map (λ (r : Resident). r.line) (b w) ≡ Some line → option_map (λ (r : Resident). r.line) (a w) ≡ Some line
  holds-back line w less = subst (λ (o : Option Resident). option_map (λ (r : Resident). r.line) o ≡ Some line) (sym (same w less))

  victim-same : (mask way : ℕ) → IsVictim ways mask a old way → IsVictim ways mask b young way
  victim-same mask way it =
      let within = it.within in
      record {
        within = within;
        allowed = it.allowed;
        lowest_empty = λ none w less has. (let inside : w < ways = omega (arith, less, within) in some-to w inside (it.lowest_empty (same way within ∙ none) w less has));
        none_empty = λ some w less has. some-to w less (it.none_empty (some-back way within some) w less has);
        oldest = λ some w less has.
            let here = some-back way within some in
            let low = it.oldest here w less has in
            omega (arith, low, aged way within here, aged w less (it.none_empty here w less has));
        lowest = λ some w less has.
            let here = some-back way within some in
            let inside : w < ways = omega (arith, less, within) in
            let low = it.lowest here w less has in
            omega (arith, low, aged way within here, aged w inside (it.none_empty here w inside has));
      }

  pub outcome-same : (mask line : ℕ) (hit : Bool) (way : ℕ) → IsOutcome ways mask a old line hit way → IsOutcome ways mask b young line hit way
  outcome-same mask line true way it = (it.0, subst (λ (o : Option Resident). option_map (λ (r : Resident). r.line) o ≡ Some line) (same way it.0) it.1)
  outcome-same mask line false way it = ((λ w less has. it.0 w less (holds-back line w less has)), victim-same mask way it.1)

  pub place-same : (line : ℕ) (way : Option ℕ) → IsPlaceOf ways a line way → IsPlaceOf ways b line way
  place-same line (Some way) it = (it.0, subst (λ (o : Option Resident). option_map (λ (r : Resident). r.line) o ≡ Some line) (same way it.0) it.1)
  place-same line None it = λ w less has. it w less (holds-back line w less has)

module _ (es : List SliceEntry) (r : Replay) (stands : StandsFor r.slots.shape es r) (set : ℕ) (inside : set < r.slots.shape.sets) where
  same-held : (w : ℕ) → w < r.slots.shape.ways → held r.slots.shape es set w ≡ residents_at r.slots set w
  same-held w less = (stands.places set w inside less).resident

  same-used : (w : ℕ) → w < r.slots.shape.ways → IsSome (residents_at r.slots set w) → used r.slots.shape es set w ≡ ages_at r.slots set w
  same-used w less some = of (place_at r.slots set w) refl some
    where
      of : (p : Option CachedLine) → place_at r.slots set w ≡ p → IsSome (resident_of p) → used r.slots.shape es set w ≡ age_of (place_at r.slots set w)
      of None is some = absurd cc
      of (Some p) is some = (stands.places set w inside less).age p is ∙ sym (ap age_of is)

  -- the answer of the places is that of the history
  pub outcome-held : (mask line : ℕ) (hit : Bool) (way : ℕ)
      → IsOutcome r.slots.shape.ways mask (residents_at r.slots set) (ages_at r.slots set) line hit way ↔ IsOutcome r.slots.shape.ways mask (held r.slots.shape es set) (used r.slots.shape es set) line hit way
  outcome-held mask line hit way = (
    outcome-same r.slots.shape.ways (residents_at r.slots set) (held r.slots.shape es set) (ages_at r.slots set) (used r.slots.shape es set) (λ w less. sym (same-held w less)) (λ w less some. sym (same-used w less some)) mask line hit way,
    outcome-same r.slots.shape.ways (held r.slots.shape es set) (residents_at r.slots set) (used r.slots.shape es set) (ages_at r.slots set) same-held
        (λ w less some. same-used w less (subst (λ (o : Option Resident). IsSome o) (same-held w less) some)) mask line hit way,
  )

  pub place-held : (line : ℕ) (way : Option ℕ) → IsPlaceOf r.slots.shape.ways (residents_at r.slots set) line way ↔ IsPlaceOf r.slots.shape.ways (held r.slots.shape es set) line way
  place-held line way = (
    place-same r.slots.shape.ways (residents_at r.slots set) (held r.slots.shape es set) (ages_at r.slots set) (used r.slots.shape es set) (λ w less. sym (same-held w less)) (λ w less some. sym (same-used w less some)) line way,
    place-same r.slots.shape.ways (held r.slots.shape es set) (residents_at r.slots set) (used r.slots.shape es set) (ages_at r.slots set) same-held
        (λ w less some. same-used w less (subst (λ (o : Option Resident). IsSome o) (same-held w less) some)) line way,
  )
