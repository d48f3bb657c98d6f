-- An access adds its entry to what the cache stands for.
use Rattle.std.proofs.Common.{◌≡◌, ℕ, ◌+◌, ◌%◌, ◌<◌, ◌≤◌, true, false, cond, ◌==◌, List, length, Option, Some, None, option_map, arith, refl, sym, ◌∙◌, ap, subst, inl, inr, slice_set}
use Rattle.std.specs.Option.{option_map_or}
use Rattle.std.proofs.lemmas.Bool.{cases_Bool, cond-true, cond-false, eqb-true}
use Rattle.std.proofs.lemmas.Option.{none-some}
use Rattle.rc_base.specs.declared.names.Tag.{Tag}
use Rattle.cache_core.specs.declared.entry.What.TheVariants.{Access}
use Rattle.cache_core.specs.declared.touched.Touched.{Touched}
use Rattle.cache_core.specs.declared.touched.Touched.TheVariants.{Hit, Filled, Stale}
use Rattle.cache_core.specs.declared.cached_line.CachedLine.{CachedLine}
use Rattle.cache_core.specs.Fills.{Resident, IsVictim}
use Rattle.cache_core.specs.History.{Shape, IsOwn, held, used}
use Rattle.cache_core.specs.Places.{IsFormed, set_in, place_in, resident_in, stamp_in, CacheValue}
use Rattle.cache_core.specs.Stands.{Adds, Accesses, Touches}
use Rattle.cache_core.proofs.KeptPlaces.{cond-under, length-set_in_own, res, stamp, get_or-set}
use Rattle.cache_core.proofs.Uses.{StandsFor-use, IsVictim-same_order}

-- a new stamp leaves the line and the RMID
option_map-new_stamp : (o : Option CachedLine) (stamp : ℕ) → option_map (λ (p : CachedLine). let r : Resident = record { line = p.line; rmid = p.rmid } in r) (option_map (λ (p : CachedLine). record p { used = stamp }) o) ≡ option_map (λ (p : CachedLine). record { line = p.line; rmid = p.rmid }) o
option_map-new_stamp None stamp = refl
option_map-new_stamp (Some p) stamp = refl

-- a full place has the new stamp
option_map_or-new_stamp : (o : Option CachedLine) (line stamp : ℕ) → option_map (λ (r : Resident). r.line) (option_map (λ (p : CachedLine). let r : Resident = record { line = p.line; rmid = p.rmid } in r) o) ≡ Some line → option_map_or (λ (p : CachedLine). p.used) (option_map (λ (p : CachedLine). record p { used = stamp }) o) 0 ≡ stamp
option_map_or-new_stamp None line stamp h = elim (none-some line h) [ ]
option_map_or-new_stamp (Some p) line stamp h = refl

-- the place that an access fills or looks for
abbrev pub touching : Tag → ℕ → ℕ → CachedLine
touching tag line clock = record { line = line; rmid = tag.rmid; used = clock }

-- the cache with one set changed
abbrev touched_state : CacheValue → ℕ → List (Option CachedLine) → CacheValue
touched_state old line changed = record { shape = old.shape; rmids = old.rmids; places = slice_set old.places (line % old.shape.sets) changed; floor = old.floor; clock = old.clock + 1 }

-- a hit adds its entry
Adds-hit : (old : CacheValue) (tag : Tag) (line way : ℕ) (changed : List (Option CachedLine))
    → IsFormed old.shape old.rmids old.clock old.places → IsOwn old.shape (line % old.shape.sets) → old.floor ≤ tag.epoch
    → Touches (set_in old.places (line % old.shape.sets)) changed tag.mask (touching tag line old.clock) (Hit way)
    → Adds old (touched_state old line changed) tag.epoch (Access true way tag.owner tag.rmid tag.mask line)
Adds-hit old tag line way changed formed own late touched thread op history stands =
    let s0 : ℕ = line % old.shape.sets in
    let places : List (Option CachedLine) = set_in old.places s0 in
    let full : length places ≡ old.shape.ways = length-set_in_own old s0 formed own in
    let marked : Option CachedLine = option_map (λ (p : CachedLine). record p { used = old.clock }) (place_in places way) in
    let read : (w : ℕ) → place_in changed w ≡ cond (way == w) marked (place_in places w) = λ w. ap (λ ps. place_in ps w) touched.2 ∙ get_or-set places way w marked None touched.0 in
    let within : way < old.shape.ways = subst (λ n. way < n) full touched.0 in
    StandsFor-use old changed history thread op tag.epoch tag.owner tag.rmid tag.mask line way true formed own
    (λ w. elim (cases_Bool (way == w)) [
      | inl h ↦ ap res (read w ∙ cond-true (way == w) marked (place_in places w) h) ∙ (option_map-new_stamp (place_in places way) old.clock ∙ ap (λ k. resident_in places k) (eqb-true way w h))
      | inr h ↦ ap res (read w ∙ cond-false (way == w) marked (place_in places w) h)
    ])
    (λ w. ap stamp (read w) ∙ (cond-under stamp (way == w) marked (place_in places w) ∙ ap (λ k. cond (way == w) k (stamp_in places w)) (option_map_or-new_stamp (place_in places way) line old.clock touched.1)))
    stands
    (omega (arith, late, stands.floor), (within, subst (λ (o : Option Resident). option_map (λ (r : Resident). r.line) o ≡ Some line) (stands.holds s0 way own within) touched.1))

-- a fill adds its entry
Adds-fill : (old : CacheValue) (tag : Tag) (line way : ℕ) (changed : List (Option CachedLine))
    → IsFormed old.shape old.rmids old.clock old.places → IsOwn old.shape (line % old.shape.sets) → old.floor ≤ tag.epoch
    → Touches (set_in old.places (line % old.shape.sets)) changed tag.mask (touching tag line old.clock) (Filled way)
    → Adds old (touched_state old line changed) tag.epoch (Access false way tag.owner tag.rmid tag.mask line)
Adds-fill old tag line way changed formed own late touched thread op history stands =
    let s0 : ℕ = line % old.shape.sets in
    let m : Shape = old.shape in
    let places : List (Option CachedLine) = set_in old.places s0 in
    let full : length places ≡ m.ways = length-set_in_own old s0 formed own in
    let put : Option CachedLine = Some (touching tag line old.clock) in
    let victim : IsVictim (length places) tag.mask (resident_in places) (stamp_in places) way = touched.1 in
    let read : (w : ℕ) → place_in changed w ≡ cond (way == w) put (place_in places w) = λ w. ap (λ ps. place_in ps w) touched.2 ∙ get_or-set places way w put None victim.within in
    let same : (w : ℕ) → w < m.ways → resident_in places w ≡ held m history s0 w = λ w l. stands.holds s0 w own l in
    StandsFor-use old changed history thread op tag.epoch tag.owner tag.rmid tag.mask line way false formed own
    (λ w. ap res (read w) ∙ cond-under res (way == w) put (place_in places w))
    (λ w. ap stamp (read w) ∙ cond-under stamp (way == w) put (place_in places w))
    stands (
      omega (arith, late, stands.floor),
      (
        (λ w l h. touched.0 w (subst (λ (o : Option Resident). option_map (λ (r : Resident). r.line) o ≡ Some line) (sym (same w l)) h)),
        IsVictim-same_order m.ways tag.mask (resident_in places) (held m history s0) (stamp_in places) (used m history s0) way same
            (λ v w lv lw fv fw. stands.ages s0 v w own lv lw fv fw)
            (subst (λ n. IsVictim n tag.mask (resident_in places) (stamp_in places) way) full victim),
      ),
    )

-- what an access does to its set is one entry more
pub Accesses-touches : (old : CacheValue) (tag : Tag) (line : ℕ) (changed : List (Option CachedLine)) (answer : Touched)
    → IsFormed old.shape old.rmids old.clock old.places → IsOwn old.shape (line % old.shape.sets) → old.floor ≤ tag.epoch
    → Touches (set_in old.places (line % old.shape.sets)) changed tag.mask (touching tag line old.clock) answer
    → Accesses old (touched_state old line changed) tag line answer
Accesses-touches old tag line changed (Hit way) formed own late touched = Adds-hit old tag line way changed formed own late touched
Accesses-touches old tag line changed (Filled way) formed own late touched = Adds-fill old tag line way changed formed own late touched
Accesses-touches old tag line changed (Stale floor) formed own late touched = absurd touched
