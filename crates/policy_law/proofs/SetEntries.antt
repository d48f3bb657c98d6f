-- One entry of a window leaves the set of the slice and the set under the policy alike.
use Rattle.std.proofs.Common.{◌≡◌, ℕ, ◌+◌, ◌-◌, ◌%◌, ◌≤◌, Bool, true, false, not, ◌&&◌, ◌==◌, List, [], ◌∷◌, ◌++◌, length, Option, Some, None, refl, sym, ◌∙◌, ap, subst, inl, inr, arith}
use Rattle.std.specs.Prelude.{is_some, option_map}
use Rattle.std.proofs.lemmas.Bool.{cases_Bool, eqb-true, eq-eqb, ne_eqb, true≢false, cond-false, and_right, and_left}
use Rattle.rc_base.specs.declared.names.Gid.{Gid}
use Rattle.cache_core.specs.declared.entry.What.{What}
use Rattle.cache_core.specs.declared.entry.What.TheVariants.{Access, Raise, Flush, Lock, Look, Drop}
use Rattle.cache_core.specs.declared.entry.SliceEntry.{SliceEntry}
use Rattle.cache_core.specs.Filled.{empties}
use Rattle.cache_core.specs.Fills.{Resident, Holds, IsOutcome, IsPlaceOf}
use Rattle.cache_core.specs.History.{Shape, held, used, decides, uses, MayHappen}
use Rattle.cache_core.specs.Stands.{entry}
use Rattle.cache_core.proofs.laws.Histories.{held-push, used-push, used-le}
use Rattle.policy_law.specs.Policies.{CacheSet, has_way as has, way_of, set_after, fill_way, after_access, after_drop}
use Rattle.policy_law.specs.KnownPolicies.{Stamps, lru, some_or, with_at}
use Rattle.policy_law.specs.SliceSets.{ways_in, event_in}
use Rattle.policy_law.proofs.Fills.{has-ways_in, length-ways, some_or-some}
use Rattle.policy_law.proofs.Steps.{IsSet-same, IsSet-hit, IsSet-fill, IsSet-drop}
use Rattle.policy_law.proofs.SetPlaces.{IsSet, way_of-missed, fill_way-victim}

-- the set under the policy is this set of the slice, after a history
abbrev pub IsSetOf : Shape → List SliceEntry → ℕ → CacheSet Stamps → Type 0
IsSetOf m history set c = IsSet m.ways (held m history set) (used m history set) c

-- an entry that touches no place of the set
IsSetOf-unchanged : (m : Shape) (set : ℕ) (history : List SliceEntry) (e : SliceEntry) (c : CacheSet Stamps) → ((w : ℕ) → decides m set w e.what ≡ false) → ((w : ℕ) → uses m set w e.what ≡ false)
    → IsSetOf m history set c → IsSetOf m (history ++ e ∷ []) set c
IsSetOf-unchanged m set history e c keep idle is =
    IsSet-same m.ways (held m history set) (held m (history ++ e ∷ []) set) (used m history set) (used m (history ++ e ∷ []) set) c
    (λ w. held-push m history e set w ∙ cond-false (decides m set w e.what) _ _ (keep w)) (λ w. used-push m history e set w ∙ cond-false (uses m set w e.what) _ _ (idle w)) is

-- of three tests the second fails
and-second_false : (a b c : Bool) → b ≡ false → (a && b && c) ≡ false
and-second_false true true c h = absurd (true≢false h)
and-second_false true false c h = refl
and-second_false false true c h = refl
and-second_false false false c h = refl

-- or the third
and-third_false : (a b c : Bool) → c ≡ false → (a && b && c) ≡ false
and-third_false true true c h = h
and-third_false true false c h = refl
and-third_false false true c h = refl
and-third_false false false c h = refl

-- the ages after an access of the set
used-access : (m : Shape) (history : List SliceEntry) (thread op epoch : ℕ) (owner : Gid) (rmid its line way set : ℕ) (hit : Bool) → (line % m.sets == set) ≡ true
    → (w : ℕ) → used m (history ++ entry thread op epoch (Access hit way owner rmid its line) ∷ []) set w ≡ with_at (used m history set) way (length history + 1) w
used-access m history thread op epoch owner rmid its line way set hit c w =
    let pushed = used-push m history (entry thread op epoch (Access hit way owner rmid its line)) set w in
    elim (cases_Bool (w == way)) [
      | inl k ↦ let same : (way == w) ≡ true = eq-eqb way w (sym (eqb-true w way k)) in rw k (pushed ∙ rw (c, same) refl)
      | inr k ↦ let other : (way == w) ≡ false = ne_eqb way w (λ e. true≢false (sym (eq-eqb w way (sym e)) ∙ k)) in rw k (pushed ∙ rw (c, other) refl)
    ]

-- a mask with a way of the cache is what the cache has of it
some_or-ways : (n its way : ℕ) → has (ways_in n its) way ≡ true → some_or (ways_in n its) (way ∷ []) ≡ ways_in n its
some_or-ways n its way h = some_or-some (ways_in n its) (way ∷ []) (length-ways (ways_in n its) way h)

-- an access of the set
pub IsSetOf-access : (m : Shape) (history : List SliceEntry) (thread op epoch : ℕ) (owner : Gid) (rmid its line way set : ℕ) (hit : Bool) (c : CacheSet Stamps) → (line % m.sets == set) ≡ true
    → IsOutcome m.ways its (held m history set) (used m history set) line hit way → IsSetOf m history set c
    → (is_some (way_of line c.places) ≡ hit) × IsSetOf m (history ++ entry thread op epoch (Access hit way owner rmid its line) ∷ []) set (after_access lru (some_or (ways_in m.ways its) (way ∷ [])) line c (way_of line c.places))
IsSetOf-access m history thread op epoch owner rmid its line way set true c at outcome is =
    let e : SliceEntry = entry thread op epoch (Access true way owner rmid its line) in
    let found : way_of line c.places ≡ Some way = is.whole line way outcome.0 outcome.1 in
    let same : (v : ℕ) → held m (history ++ e ∷ []) set v ≡ held m history set v = λ v. held-push m history e set v in
    let next = IsSet-hit m.ways line way (length history + 1) (some_or (ways_in m.ways its) (way ∷ [])) (held m history set) (held m (history ++ e ∷ []) set) (used m history set) (used m (history ++ e ∷ []) set) c
    same (λ v. let l : used m history set v ≤ length history = used-le m history set v in omega arith) (used-access m history thread op epoch owner rmid its line way set true at) is in
    (ap is_some found, subst (λ o. IsSetOf m (history ++ e ∷ []) set (after_access lru (some_or (ways_in m.ways its) (way ∷ [])) line c o)) (sym found) next)
IsSetOf-access m history thread op epoch owner rmid its line way set false c at outcome is =
    let e : SliceEntry = entry thread op epoch (Access false way owner rmid its line) in
    let missed : way_of line c.places ≡ None = way_of-missed m.ways line (held m history set) (used m history set) c is outcome.0 (way_of line c.places) refl in
    let filled : fill_way lru (ways_in m.ways its) c ≡ way = fill_way-victim m.ways its way (held m history set) (used m history set) c is outcome.1 (held m history set way) refl in
    let there : (way == way) ≡ true = eq-eqb way way refl in
    let now : Holds (held m (history ++ e ∷ []) set) line way = ap (λ (o : Option Resident). option_map (λ (r : Resident). r.line) o) (held-push m history e set way) ∙ rw (at, there) refl in
    let same : (v : ℕ) → (v == way) ≡ false → held m (history ++ e ∷ []) set v ≡ held m history set v = λ v k.
    held-push m history e set v ∙ cond-false (decides m set v e.what) _ _ (and-third_false true (line % m.sets == set) (way == v) (ne_eqb way v (λ q. true≢false (sym (eq-eqb v way (sym q)) ∙ k)))) in
    let next = IsSet-fill m.ways line way (length history + 1) (ways_in m.ways its) (held m history set) (held m (history ++ e ∷ []) set) (used m history set) (used m (history ++ e ∷ []) set) c
    outcome.1.within missed filled now same (λ v. let l : used m history set v ≤ length history = used-le m history set v in omega arith) (used-access m history thread op epoch owner rmid its line way set false at) is in (
      ap is_some missed,
      subst (λ l. IsSetOf m (history ++ e ∷ []) set (after_access lru l line c (way_of line c.places))) (sym (some_or-ways m.ways its way (has-ways_in m.ways its way outcome.1.within outcome.1.allowed)))
          (subst (λ o. IsSetOf m (history ++ e ∷ []) set (after_access lru (ways_in m.ways its) line c o)) (sym missed) next),
    )

-- a drop of a line of the set
IsSetOf-drop : (m : Shape) (history : List SliceEntry) (thread op epoch line set : ℕ) (at : Option ℕ) (c : CacheSet Stamps) → (line % m.sets == set) ≡ true → IsPlaceOf m.ways (held m history set) line at → IsSetOf m history set c
    → IsSetOf m (history ++ entry thread op epoch (Drop line at) ∷ []) set (after_drop lru line c (way_of line c.places))
IsSetOf-drop m history thread op epoch line set None c own place is =
    let e : SliceEntry = entry thread op epoch (Drop line None) in
    let missed : way_of line c.places ≡ None = way_of-missed m.ways line (held m history set) (used m history set) c is place (way_of line c.places) refl in
    subst (λ o. IsSetOf m (history ++ e ∷ []) set (after_drop lru line c o)) (sym missed) (IsSetOf-unchanged m set history e c (λ w. refl) (λ w. refl) is)
IsSetOf-drop m history thread op epoch line set (Some way) c own place is =
    let e : SliceEntry = entry thread op epoch (Drop line (Some way)) in
    let found : way_of line c.places ≡ Some way = is.whole line way place.0 place.1 in
    let there : (way == way) ≡ true = eq-eqb way way refl in
    let gone : held m (history ++ e ∷ []) set way ≡ None = held-push m history e set way ∙ rw (own, there) refl in
    let same : (v : ℕ) → (v == way) ≡ false → held m (history ++ e ∷ []) set v ≡ held m history set v = λ v k.
    held-push m history e set v ∙ cond-false (decides m set v e.what) _ _ (and_right (line % m.sets == set) (way == v) (ne_eqb way v (λ q. true≢false (sym (eq-eqb v way (sym q)) ∙ k)))) in
    let next = IsSet-drop m.ways line way (held m history set) (held m (history ++ e ∷ []) set) (used m history set) (used m (history ++ e ∷ []) set) c place.0 place.1 gone same (λ v. used-push m history e set v) is in
    subst (λ o. IsSetOf m (history ++ e ∷ []) set (after_drop lru line c o)) (sym found) next

-- a drop elsewhere decides nothing
decides-elsewhere : (m : Shape) (set line : ℕ) (at : Option ℕ) → (line % m.sets == set) ≡ false → (w : ℕ) → decides m set w (Drop line at) ≡ false
decides-elsewhere m set line None other w = refl
decides-elsewhere m set line (Some way) other w = and_left (line % m.sets == set) (way == w) other

-- one entry more
pub IsSetOf-push : (m : Shape) (group set : ℕ) (history : List SliceEntry) (thread op epoch : ℕ) (what : What) (c : CacheSet Stamps) → MayHappen m history epoch what → empties what ≡ false → IsSetOf m history set c
    → IsSetOf m (history ++ entry thread op epoch what ∷ []) set (set_after lru c (event_in m group set what))
IsSetOf-push m group set history thread op epoch (Access hit way owner rmid its line) c may stays is = elim (cases_Bool (line % m.sets == set)) [
  | inl k ↦
      let outcome : IsOutcome m.ways its (held m history set) (used m history set) line hit way = subst (λ s. IsOutcome m.ways its (held m history s) (used m history s) line hit way) (eqb-true (line % m.sets) set k) may.1 in
      rw k (IsSetOf-access m history thread op epoch owner rmid its line way set hit c k outcome is).1
  | inr k ↦
      rw k (IsSetOf-unchanged m set history (entry thread op epoch (Access hit way owner rmid its line)) c (λ w. and-second_false (not hit) (line % m.sets == set) (way == w) k) (λ w. and_left (line % m.sets == set) (way == w) k) is)
]
IsSetOf-push m group set history thread op epoch Raise c may stays is = IsSetOf-unchanged m set history (entry thread op epoch Raise) c (λ w. refl) (λ w. refl) is
IsSetOf-push m group set history thread op epoch Flush c may stays is = absurd (true≢false stays)
IsSetOf-push m group set history thread op epoch (Lock mask first_line) c may stays is = absurd (true≢false stays)
IsSetOf-push m group set history thread op epoch (Look rmid lines) c may stays is = IsSetOf-unchanged m set history (entry thread op epoch (Look rmid lines)) c (λ w. refl) (λ w. refl) is
IsSetOf-push m group set history thread op epoch (Drop line at) c may stays is = elim (cases_Bool (line % m.sets == set)) [
  | inl k ↦
      let place : IsPlaceOf m.ways (held m history set) line at = subst (λ s. IsPlaceOf m.ways (held m history s) line at) (eqb-true (line % m.sets) set k) may.1 in
      rw k (IsSetOf-drop m history thread op epoch line set at c k place is)
  | inr k ↦ rw k (IsSetOf-unchanged m set history (entry thread op epoch (Drop line at)) c (decides-elsewhere m set line at k) (λ w. refl) is)
]
