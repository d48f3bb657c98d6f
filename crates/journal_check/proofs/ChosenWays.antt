-- The way that a fill takes, by what was used when.
use Rattle.std.proofs.Common.{◌≡◌, ◌↔◌, ℕ, ◌<◌, Option, Some, None, refl, arith}
use Rattle.std.specs.Prelude.{IsSome, IsTrue, option_map}
use Rattle.std.proofs.lemmas.Bool.{lt-ltb, ltb-true}
use Rattle.journal_check.specs.declared.cached_line.CachedLine.{CachedLine}
use Rattle.cbm.specs.Masks.{has_way}
use Rattle.journal_check.specs.Outcomes.{AreFull, AreNotOlder, IsVictimAt, ages_at, residents_at, used_at}
use Rattle.journal_check.specs.Slots.{SlotsValue, age_of, place_at, resident_of}

-- when the line of a place was used
abbrev used_of : Option CachedLine → Option ℕ
used_of place = option_map (λ (p : CachedLine). p.used) place

-- a place with a line has a time
some-used : (place : Option CachedLine) → IsSome (resident_of place) → IsSome (used_of place)
some-used None is = absurd cc
some-used (Some p) is = refl

used-some : (place : Option CachedLine) → IsSome (used_of place) → IsSome (resident_of place)
used-some None is = absurd cc
used-some (Some p) is = refl

-- a place without a time is empty
none-used : (place : Option CachedLine) → used_of place ≡ None → resident_of place ≡ None
none-used None is = refl
none-used (Some p) is = absurd cc

-- the time of a place is its age
age-used : (place : Option CachedLine) (used : ℕ) → used_of place ≡ Some used → age_of place ≡ used
age-used None used is = absurd cc
age-used (Some p) used is = cc

-- something that is there is
some-there : (o : Option ℕ) (x : ℕ) → o ≡ Some x → IsSome o
some-there None x is = absurd cc
some-there (Some y) x is = refl

there-some : (o : Option ℕ) → IsSome o → (x : ℕ) × (o ≡ Some x)
there-some None is = absurd cc
there-some (Some x) is = (x, refl)

none-not_some : {A : Type 0} (o : Option A) → o ≡ None → IsSome o → ⊥
none-not_some None is some = cc
none-not_some (Some x) is some = cc

module _ (v : SlotsValue) (set mask way : ℕ) (within : way < v.shape.ways) (allowed : IsTrue (has_way mask way)) where
  -- an empty way is taken where none below it is empty
  pub victim-empty : used_at v set way ≡ None → AreFull v set mask way ↔ IsVictimAt v set mask way
  victim-empty none = (
    λ full. record {
      within = within;
      allowed = allowed;
      lowest_empty = λ empty w less has. used-some (place_at v set w) (full w less has);
      none_empty = λ some. absurd (none-not_some (residents_at v set way) (none-used (place_at v set way) none) some);
      oldest = λ some. absurd (none-not_some (residents_at v set way) (none-used (place_at v set way) none) some);
      lowest = λ some. absurd (none-not_some (residents_at v set way) (none-used (place_at v set way) none) some);
    },
    λ victim w less has. some-used (place_at v set w) (victim.lowest_empty (none-used (place_at v set way) none) w less has),
  )

  -- and another where no way has an older line
  pub victim-used : (used : ℕ) → used_at v set way ≡ Some used → AreNotOlder v set mask way used ↔ IsVictimAt v set mask way
  victim-used used is = (
    λ younger. record {
      within = within;
      allowed = allowed;
      lowest_empty = λ empty. absurd (none-not_some (residents_at v set way) empty here);
      none_empty = λ some w less has. (let it = younger w less has in used-some (place_at v set w) (some-there (used_at v set w) it.stamp it.there));
      oldest = λ some w less has.
          let it = younger w less has in
          let its : ages_at v set w ≡ it.stamp = age-used (place_at v set w) it.stamp it.there in
          let low = it.not_older in
          omega (arith, own, its, low);
      lowest = λ some w less has.
          let it = younger w (omega (arith, less, within)) has in
          let its : ages_at v set w ≡ it.stamp = age-used (place_at v set w) it.stamp it.there in
          let low = it.younger (lt-ltb w way less) in
          omega (arith, own, its, low);
    },
    λ victim w less has.
        let some = some-used (place_at v set w) (victim.none_empty here w less has) in
        let it = there-some (used_at v set w) some in
        let its : ages_at v set w ≡ it.0 = age-used (place_at v set w) it.0 it.1 in
        let old = victim.oldest here w less has in
        record {
          stamp = it.0;
          there = it.1;
          not_older = omega (arith, own, its, old);
          younger = λ before. (let low : w < way = ltb-true w way before in let first = victim.lowest here w low has in omega (arith, own, its, first));
        },
  )
    where
      own : ages_at v set way ≡ used
      own = age-used (place_at v set way) used is

      here : IsSome (residents_at v set way)
      here = used-some (place_at v set way) (some-there (used_at v set way) used is)
