-- A raise, a look, a flush and a lock add their entries to what the cache stands for.
use Rattle.std.proofs.Common.{◌≡◌, ℕ, ◌+◌, ◌*◌, ◌<◌, ◌≤◌, max, Bool, true, false, cond, List, [], ◌∷◌, ◌++◌, length, Option, None, arith, refl, sym, ◌∙◌, ap, subst, IsSome}
use Rattle.std.proofs.lemmas.Bool.{false≢true}
use Rattle.std.proofs.lemmas.List.{length_push}
use Rattle.cache_core.specs.declared.entry.What.TheVariants.{Raise, Flush, Lock, Look}
use Rattle.cache_core.specs.declared.entry.SliceEntry.{SliceEntry}
use Rattle.cache_core.specs.declared.cached_line.CachedLine.{CachedLine}
use Rattle.cache_core.specs.Fills.{Resident}
use Rattle.cache_core.specs.History.{IsOwn, Shape, lines_of, decides, uses, used, sets_floor, floor_of, ways_below, EntryMayFollow}
use Rattle.cache_core.specs.Loads.{loaded, loaded_place}
use Rattle.cbm.specs.Masks.{has_way}
use Rattle.cache_core.specs.Places.{set_in, place_in, resident_in, stamp_in, CacheValue}
use Rattle.cache_core.specs.Stands.{StandsFor, entry, Adds}
use Rattle.cache_core.proofs.laws.Histories.{held-push, used-push, floor_of-push, IsLegal-push}
use Rattle.cache_core.proofs.KeptPlaces.{cond-under, res, stamp}

-- an entry that changes no place and uses none
pub StandsFor-quiet : (old : CacheValue) (history : List SliceEntry) (e : SliceEntry) (floor clock : ℕ) → ((set way : ℕ) → decides old.shape set way e.what ≡ false) → ((set way : ℕ) → uses old.shape set way e.what ≡ false)
    → EntryMayFollow old.shape history e → floor ≡ max (floor_of history) (cond (sets_floor e.what) e.epoch 0) → clock ≤ length history + 1
    → StandsFor old history → StandsFor (record { shape = old.shape; rmids = old.rmids; places = old.places; floor = floor; clock = clock }) (history ++ e ∷ [])
StandsFor-quiet old history e floor clock keeps idle may is most stands = record {
  legal = IsLegal-push old.shape history e stands.legal may;
  holds = λ s w ls lw. rw (held-push old.shape history e s w, keeps s w) (stands.holds s w ls lw);
  ages = λ s v w ls lv lw fv fw. rw (used-push old.shape history e s v, used-push old.shape history e s w, idle s v, idle s w) (stands.ages s v w ls lv lw fv fw);
  floor = is ∙ sym (floor_of-push history e);
  clock = rw length_push most;
}

-- a raise sets the floor
pub Adds-raise : (old : CacheValue) (epoch : ℕ) → old.floor ≤ epoch → Adds old (record { shape = old.shape; rmids = old.rmids; places = old.places; floor = epoch; clock = old.clock + 1 }) epoch Raise
Adds-raise old epoch late thread op history stands =
    StandsFor-quiet old history (entry thread op epoch Raise) epoch (old.clock + 1) (λ _ _. refl) (λ _ _. refl) (omega (arith, late, stands.floor)) (omega (arith, late, stands.floor)) (omega (arith, stands.clock)) stands

-- a look changes nothing
pub Adds-look : (old : CacheValue) (epoch rmid lines : ℕ) → ((history : List SliceEntry) → StandsFor old history → lines ≡ lines_of old.shape history rmid) → Adds old old epoch (Look rmid lines)
Adds-look old epoch rmid lines counts thread op history stands =
    StandsFor-quiet old history (entry thread op epoch (Look rmid lines)) old.floor old.clock (λ _ _. refl) (λ _ _. refl) (counts history stands) (omega (arith, stands.floor)) (omega (arith, stands.clock)) stands

-- a flush empties every place
pub Adds-flush : (old : CacheValue) (places : List (List (Option CachedLine))) (epoch : ℕ) → old.floor ≤ epoch → ((s w : ℕ) → place_in (set_in places s) w ≡ None)
    → Adds old (record { shape = old.shape; rmids = old.rmids; places = places; floor = epoch; clock = old.clock + 1 }) epoch Flush
Adds-flush old places epoch late empty thread op history stands =
    let e : SliceEntry = entry thread op epoch Flush in
    let none : (s w : ℕ) → resident_in (set_in places s) w ≡ None = λ s w. ap res (empty s w) in
    record {
      legal = IsLegal-push old.shape history e stands.legal (omega (arith, late, stands.floor));
      holds = λ s w ls lw. none s w ∙ sym (held-push old.shape history e s w);
      ages = λ s v w ls lv lw fv fw. elim (false≢true (subst (λ (o : Option Resident). IsSome o) (none s v) fv)) [ ];
      floor = omega (arith, late, stands.floor) ∙ sym (floor_of-push history e);
      clock = rw length_push (omega (arith, stands.clock));
    }

-- what was loaded has the stamp
stamp-loaded : (b : Bool) (line now : ℕ) → IsSome (res (cond b (loaded line now) None)) → (b ≡ true) × (stamp (cond b (loaded line now) None) ≡ now)
stamp-loaded true line now some = (refl, refl)
stamp-loaded false line now some = elim (false≢true some) [ ]

-- a lock empties every place, and loads its region
pub Adds-lock : (old : CacheValue) (places : List (List (Option CachedLine))) (epoch mask first_line : ℕ) → old.floor ≤ epoch
    → ((s w : ℕ) → IsOwn old.shape s → w < old.shape.ways → place_in (set_in places s) w ≡ loaded_place old.shape mask first_line old.clock s w)
    → Adds old (record { shape = old.shape; rmids = old.rmids; places = places; floor = epoch; clock = old.clock + 1 }) epoch (Lock mask first_line)
Adds-lock old places epoch mask first_line late holds thread op history stands =
    let m : Shape = old.shape in
    let e : SliceEntry = entry thread op epoch (Lock mask first_line) in
    let now : (s w : ℕ) → IsOwn m s → w < m.ways → resident_in (set_in places s) w ≡ res (loaded_place m mask first_line old.clock s w) = λ s w own inside. ap res (holds s w own inside) in
    let young : (s w : ℕ) → IsOwn m s → w < m.ways → IsSome (resident_in (set_in places s) w) → (has_way mask w ≡ true) × (stamp_in (set_in places s) w ≡ old.clock) = λ s w own inside some.
    let at = stamp-loaded (has_way mask w) (first_line + s + ways_below mask w * m.sets) old.clock (subst (λ (o : Option Resident). IsSome o) (now s w own inside) some) in
    (at.0, ap stamp (holds s w own inside) ∙ at.1) in
    let last : (s w : ℕ) → has_way mask w ≡ true → used m (history ++ e ∷ []) s w ≡ length history + 1 = λ s w has. used-push m history e s w ∙ ap (λ b. cond b (length history + 1) (used m history s w)) has in
    record {
      legal = IsLegal-push m history e stands.legal (omega (arith, late, stands.floor));
      holds = λ s w own inside. now s w own inside ∙ (cond-under res (has_way mask w) (loaded (first_line + s + ways_below mask w * m.sets) old.clock) None ∙ sym (held-push m history e s w));
      ages = λ s v w own lv lw fv fw.
          let a = young s v own lv fv in
          let b = young s w own lw fw in
          let first : used m (history ++ e ∷ []) s v ≡ length history + 1 = last s v a.0 in
          let second : used m (history ++ e ∷ []) s w ≡ length history + 1 = last s w b.0 in
          (λ _. omega (arith, first, second), λ _. omega (arith, a.1, b.1));
      floor = omega (arith, late, stands.floor) ∙ sym (floor_of-push history e);
      clock = rw length_push (omega (arith, stands.clock));
    }

-- an empty cache stands for no entry
pub StandsFor-empty : (cache : CacheValue) → ((s w : ℕ) → place_in (set_in cache.places s) w ≡ None) → cache.floor ≡ 0 → cache.clock ≡ 0 → StandsFor cache []
StandsFor-empty cache empty floor clock =
    let none : (s w : ℕ) → resident_in (set_in cache.places s) w ≡ None = λ s w. ap res (empty s w) in
    record {
      legal = tt;
      holds = λ s w ls lw. none s w;
      ages = λ s v w ls lv lw fv fw. elim (false≢true (subst (λ (o : Option Resident). IsSome o) (none s v) fv)) [ ];
      floor = floor;
      clock = omega (arith, clock);
    }
