-- What a count of places adds.
use Rattle.std.proofs.Common.{◌≡◌, ℕ, ◌+◌, ◌<◌, ◌≤◌, ◌==◌, Bool, true, false, cond, not, ◌&&◌, ◌||◌, List, length, Option, Some, None, refl, sym, ap, ◌∙◌, arith, inl, inr}
use Rattle.std.specs.Prelude.{is_some, option_and_then, slice_index}
use Rattle.std.specs.Option.{option_or}
use Rattle.std.proofs.lemmas.Bool.{cases_Bool, cases_lt, eq-eqb, eqb-true}
use Rattle.std.proofs.lemmas.List.{get_or_past}
use Rattle.cache_core.proofs.laws.Places.{places_with-changed, places_with-same}
use Rattle.cache_core.specs.Filled.{AreAlike, places_with}
use Rattle.cache_core.specs.Fills.{Resident}
use Rattle.cache_core.specs.History.{IsOwn, Shape, is_of}
use Rattle.lists.proofs.Sums.{one_if-le}
use Rattle.lists.specs.Sums.{one_if}
use Rattle.run_counts.specs.Occupancies.{AddsPlace, AddsPlaces, HasCounted, HasDecided, IsAtMost, OccupancyValue, SkipsPlace, SkipsPlaces, held_in, is_seen, lines_told, with_left}

-- ---- one place

-- this place and no other
abbrev pub is_at : ℕ → ℕ → ℕ → ℕ → Bool
is_at set way s w = (set == s) && (way == w)

-- any other place is not this one
pub is_at-other : (set way s w : ℕ) → ((s ≡ set) × (w ≡ way) → ⊥) → is_at set way s w ≡ false
is_at-other set way s w apart = elim (cases_Bool (set == s)) [
  | inl e ↦ elim (cases_Bool (way == w)) [ inl f ↦ absurd (apart (sym (eqb-true set s e), sym (eqb-true way w f))) | inr f ↦ rw (e, f) refl ]
  | inr e ↦ rw e refl
]

-- this place itself
is_at-same : (set way : ℕ) → is_at set way set way ≡ true
is_at-same set way = rw (eq-eqb set set refl, eq-eqb way way refl) refl

-- what is there, of two
option_or-false : (o : Option (Option Resident)) (b : Bool) (x : Option Resident) → b ≡ false → option_or o (cond b (Some x) None) ≡ o
option_or-false None b x is = rw is refl
option_or-false (Some y) b x is = refl

-- whether something is there, of two
is_some-option_or : (o : Option (Option Resident)) (b : Bool) (x : Option Resident) → is_some (option_or o (cond b (Some x) None)) ≡ (is_some o || b)
is_some-option_or None true x = refl
is_some-option_or None false x = refl
is_some-option_or (Some y) b x = refl

-- what is in a place that was decided
abbrev join : Option (Option Resident) → Option Resident
join o = option_and_then (λ (x : Option Resident). x) o

-- one test of what is there
one_if-option_or : (p : Option Resident → Bool) (o : Option (Option Resident)) (b : Bool) (x : Option Resident) → p None ≡ false → b ≡ true
    → one_if (p (join (option_or o (cond b (Some x) None)))) ≡ one_if (p (join o)) + cond (is_some o) 0 (one_if (p x))
one_if-option_or p None b x none is = rw (is, none) (omega arith)
one_if-option_or p (Some y) b x none is = omega arith

-- the places that pass a test, where one more is decided
pub places_with-at : (m : Shape) (p : Option Resident → Bool) (places : ℕ → ℕ → Option (Option Resident)) (left : ℕ → ℕ → Option Resident) (set way : ℕ) → IsOwn m set → way < m.ways → p None ≡ false
    → places_with m p (held_in (with_left (is_at set way) left places)) ≡ places_with m p (held_in places) + cond (is_some (places set way)) 0 (one_if (p (left set way)))
places_with-at m p places left set way own inside none =
    places_with-changed m p (held_in places) (held_in (with_left (is_at set way) left places)) set way _ own inside
    (λ s w apart. ap join (option_or-false (places s w) (is_at set way s w) (left s w) (is_at-other set way s w apart)))
    (one_if-option_or p (places set way) (is_at set way set way) (left set way) none (is_at-same set way))

-- a place was added
pub AddsPlaces-one : (m : Shape) (old new : OccupancyValue) (set way rmid : ℕ) → m.ways ≤ 32 → IsOwn m set → way < m.ways → AddsPlace old new set way rmid → AddsPlaces m old new rmid (is_at set way)
AddsPlaces-one m old new set way rmid few own inside adds base places lines named before = record {
  counted = record {
    sets = adds.sets ∙ before.counted.sets;
    rmids = adds.rmids ∙ before.counted.rmids;
    counts = λ r there.
        let more = adds.counts r (let same = before.counted.rmids in omega arith) in
        let was = before.counted.counts r there in
        let there_now = places_with-at m (is_of r) places (λ s w. Some (lines s w)) set way own inside refl in
        let extra : cond (is_seen old set way) 0 (one_if (rmid == r)) ≡ cond (is_some (places set way)) 0 (one_if ((lines set way).rmid == r)) = rw (before.seen set way own inside, named set way) refl in
        omega (arith, more, was, there_now, extra);
    valid =
        let more = adds.valid in
        let was = before.counted.valid in
        let there_now = places_with-at m (λ o. is_some o) places (λ s w. Some (lines s w)) set way own inside refl in
        let extra : one_if (not (is_seen old set way)) ≡ cond (is_some (places set way)) 0 1 = rw (before.seen set way own inside) (turned (is_some (places set way))) in
        omega (arith, more, was, there_now, extra);
  };
  seen = λ s w s_own w_inside.
      adds.seen s w (omega arith) ∙ (ap (λ b. b || is_at set way s w) (before.seen s w s_own w_inside) ∙ sym (is_some-option_or (places s w) (is_at set way s w) (Some (lines s w))));
}
  where
    turned : (b : Bool) → one_if (not b) ≡ cond b 0 1
    turned true = refl
    turned false = refl

-- a place was skipped
pub SkipsPlaces-one : (m : Shape) (old new : OccupancyValue) (set way : ℕ) → m.ways ≤ 32 → IsOwn m set → way < m.ways → SkipsPlace old new set way → SkipsPlaces m old new (is_at set way)
SkipsPlaces-one m old new set way few own inside skips base places before = record {
  counted = record {
    sets = skips.sets ∙ before.counted.sets;
    rmids = ap length skips.counts ∙ before.counted.rmids;
    counts = λ r there.
        let more : lines_told new r ≡ lines_told old r = ap (λ (all : List ℕ). slice_index all r) skips.counts in
        let was = before.counted.counts r there in
        let there_now = places_with-at m (is_of r) places (λ s w. None) set way own inside refl in
        omega (arith, more, was, there_now, none (is_some (places set way)));
    valid =
        let more = skips.valid in
        let was = before.counted.valid in
        let there_now = places_with-at m (λ o. is_some o) places (λ s w. None) set way own inside refl in
        omega (arith, more, was, there_now, none (is_some (places set way)));
  };
  seen = λ s w s_own w_inside.
      skips.seen s w (omega arith) ∙ (ap (λ b. b || is_at set way s w) (before.seen s w s_own w_inside) ∙ sym (is_some-option_or (places s w) (is_at set way s w) None));
}
  where
    none : (b : Bool) → cond b 0 (one_if false) ≡ 0
    none true = refl
    none false = refl

-- ---- places after places

-- what holds of one way to fill the places holds of another that agrees
pub HasCounted-alike : (m : Shape) (base now : OccupancyValue) (holds other : ℕ → ℕ → Option Resident) → AreAlike m holds other → HasCounted m base holds now → HasCounted m base other now
HasCounted-alike m base now holds other alike before = record {
  sets = before.sets;
  rmids = before.rmids;
  counts = λ r there. before.counts r there ∙ ap (λ n. lines_told base r + n) (places_with-same m (is_of r) holds other alike);
  valid = before.valid ∙ ap (λ n. base.valid + n) (places_with-same m (λ o. is_some o) holds other alike);
}

-- and of one way to decide them
pub HasDecided-alike : (m : Shape) (base now : OccupancyValue) (places other : ℕ → ℕ → Option (Option Resident)) → ((set way : ℕ) → IsOwn m set → way < m.ways → places set way ≡ other set way) → HasDecided m base places now → HasDecided m base other now
HasDecided-alike m base now places other alike before = record {
  counted = HasCounted-alike m base now (held_in places) (held_in other) (λ s w own inside. ap join (alike s w own inside)) before.counted;
  seen = λ s w own inside. before.seen s w own inside ∙ ap (λ (o : Option (Option Resident)). is_some o) (alike s w own inside);
}

-- no place
HasDecided-none : (m : Shape) (base now : OccupancyValue) (test : ℕ → ℕ → Bool) (left : ℕ → ℕ → Option Resident) (places : ℕ → ℕ → Option (Option Resident)) → ((set way : ℕ) → IsOwn m set → way < m.ways → test set way ≡ false)
    → HasDecided m base places now → HasDecided m base (with_left test left places) now
HasDecided-none m base now test left places none before =
    HasDecided-alike m base now places (with_left test left places) (λ s w own inside. sym (option_or-false (places s w) (test s w) (left s w) (none s w own inside))) before

-- no place is counted
pub AddsPlaces-none : (m : Shape) (now : OccupancyValue) (rmid : ℕ) (test : ℕ → ℕ → Bool) → ((set way : ℕ) → IsOwn m set → way < m.ways → test set way ≡ false) → AddsPlaces m now now rmid test
AddsPlaces-none m now rmid test none base places lines named before = HasDecided-none m base now test (λ s w. Some (lines s w)) places none before

-- no place is skipped
pub SkipsPlaces-none : (m : Shape) (now : OccupancyValue) (test : ℕ → ℕ → Bool) → ((set way : ℕ) → IsOwn m set → way < m.ways → test set way ≡ false) → SkipsPlaces m now now test
SkipsPlaces-none m now test none base places before = HasDecided-none m base now test (λ s w. None) places none before

-- of two places that come one after the other
option_or-both : (o : Option (Option Resident)) (a b c : Bool) (x : Option Resident) → c ≡ (a || b) → option_or (option_or o (cond a (Some x) None)) (cond b (Some x) None) ≡ option_or o (cond c (Some x) None)
option_or-both (Some y) a b c x is = refl
option_or-both None true b c x is = rw is refl
option_or-both None false b c x is = rw is refl

-- some places, and then others
pub AddsPlaces-both : (m : Shape) (old then now : OccupancyValue) (rmid : ℕ) (first second both : ℕ → ℕ → Bool)
    → ((set way : ℕ) → IsOwn m set → way < m.ways → both set way ≡ (first set way || second set way))
    → AddsPlaces m old then rmid first → AddsPlaces m then now rmid second → AddsPlaces m old now rmid both
AddsPlaces-both m old then now rmid first second both either one two base places lines named before =
    let left : ℕ → ℕ → Option Resident = λ s w. Some (lines s w) in
    HasDecided-alike m base now (with_left second left (with_left first left places)) (with_left both left places)
    (λ s w own inside. option_or-both (places s w) (first s w) (second s w) (both s w) (Some (lines s w)) (either s w own inside))
    (two base (with_left first left places) lines named (one base places lines named before))

-- the same places
pub AddsPlaces-same : (m : Shape) (old now : OccupancyValue) (rmid : ℕ) (test other : ℕ → ℕ → Bool) → ((set way : ℕ) → IsOwn m set → way < m.ways → other set way ≡ test set way)
    → AddsPlaces m old now rmid test → AddsPlaces m old now rmid other
AddsPlaces-same m old now rmid test other same adds =
    AddsPlaces-both m old old now rmid (λ s w. false) test other (λ s w own inside. same s w own inside) (AddsPlaces-none m old rmid (λ s w. false) (λ s w own inside. refl)) adds

-- ---- how great counts get

-- one place more
pub IsAtMost-one : (most : ℕ) (old new : OccupancyValue) (set way rmid : ℕ) → AddsPlace old new set way rmid → IsAtMost most old → IsAtMost (most + 1) new
IsAtMost-one most old new set way rmid adds few = record {
  counts = λ r. elim (cases_lt r (length old.counts)) [
    | inl there ↦ let more = adds.counts r there in let was = few.counts r in omega (arith, more, was, cond-le_one (is_seen old set way) (one_if (rmid == r)) (one_if-le (rmid == r)))
    | inr past ↦ let none : lines_told new r ≡ 0 = get_or_past new.counts r 0 (let same = adds.rmids in omega arith) in omega (arith, none)
  ];
  valid = let more = adds.valid in let was = few.valid in omega (arith, more, was, one_if-le (not (is_seen old set way)));
}
  where
    cond-le_one : (b : Bool) (n : ℕ) → n ≤ 1 → cond b 0 n ≤ 1
    cond-le_one true n le = omega arith
    cond-le_one false n le = le

-- a greater bound
pub IsAtMost-le : (most more : ℕ) (o : OccupancyValue) → most ≤ more → IsAtMost most o → IsAtMost more o
IsAtMost-le most more o le few = record { counts = λ r. let was = few.counts r in omega (arith, was, le); valid = let was = few.valid in omega (arith, was, le) }
