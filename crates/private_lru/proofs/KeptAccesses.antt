-- At an access of the group the ways of a mask keep what the private cache does.
use Rattle.std.proofs.Common.{◌≡◌, ℕ, suc, ◌+◌, ◌<◌, ◌≤◌, Bool, true, false, ◌==◌, List, [], ◌∷◌, length, map, take, Option, Some, None, ◌⊎◌, IsSome, arith, refl, sym, ◌∙◌, ap, subst, inl, inr, take_all}
use Rattle.std.proofs.lemmas.List.{length-map}
use Rattle.std.proofs.lemmas.Bool.{cases_Bool, eqb-true, eqb-false, ne_eqb, true≢false, false≢true}
use Rattle.std.proofs.lemmas.Option.{none-some, same_Some}
use Rattle.cbm.specs.Masks.{has_way}
use Rattle.cache_core.specs.Fills.{Resident, Holds, IsVictim, IsOutcome}
use Rattle.cache_core.specs.History.{ways_below}
use Rattle.private_lru.specs.Private.{among, without}
use Rattle.private_lru.proofs.Recency.{among-take_some, among-without_other, without-absent}
use Rattle.private_lru.proofs.MissingWays.{length-order, missing, missing-all}
use Rattle.private_lru.proofs.WayLines.{Descends, Descends-same, Descends-without, IsSome-line_in, among-line_of_way, among-way_of_line, among-without_parts, line_in, map-same, map-without, map-without_oldest}
use Rattle.private_lru.proofs.KeptWays.{Keeps}

-- an access of the group hits just the lines that are kept
pub hit-among : (n mask x v : ℕ) (hit : Bool) (Own : ℕ → Type 0) (residents : ℕ → Option Resident) (age : ℕ → ℕ) (order lines : List ℕ) → Own x → IsOutcome n mask residents age x hit v
    → Keeps n mask Own residents age order lines → hit ≡ among x lines
hit-among n mask x v true Own residents age order lines own outcome keeps =
    elim (cases_Bool (has_way mask v)) [
      | inl m ↦
          let a : among v order ≡ true = keeps.complete v outcome.0 m (IsSome-line_in (residents v) x outcome.1) in
          let r = among-line_of_way (λ (u : ℕ). line_in (residents u)) v order lines keeps.hold a in
          let same : r.0 ≡ x = same_Some _ _ (sym r.1 ∙ outcome.1) in
          sym (subst (λ y. among y lines ≡ true) same r.2)
      | inr m ↦ absurd (keeps.others v x outcome.0 m outcome.1 own)
    ]
hit-among n mask x v false Own residents age order lines own outcome keeps =
    elim (cases_Bool (among x lines)) [
      | inl a ↦
          let r = among-way_of_line (λ (u : ℕ). line_in (residents u)) x order lines keeps.hold a in
          absurd (outcome.0 r.0 (keeps.inside r.0 r.1).0 r.2)
      | inr a ↦ sym a
    ]

-- the way of the group's own access is of the mask
way-own : (n mask x v : ℕ) (hit : Bool) (Own : ℕ → Type 0) (residents : ℕ → Option Resident) (age : ℕ → ℕ) (order lines : List ℕ) → Own x → IsOutcome n mask residents age x hit v
    → Keeps n mask Own residents age order lines → (v < n) × (has_way mask v ≡ true)
way-own n mask x v true Own residents age order lines own outcome keeps =
    elim (cases_Bool (has_way mask v)) [
      | inl m ↦ (outcome.0, m)
      | inr m ↦ absurd (keeps.others v x outcome.0 m outcome.1 own)
    ]
way-own n mask x v false Own residents age order lines own outcome keeps = (outcome.1.within, outcome.1.allowed)

-- What the ways behind the used one hold after a fill: all the lines, or where no way is empty all but the last.
map-without_filled : (n mask x v : ℕ) (Own : ℕ → Type 0) (residents : ℕ → Option Resident) (age : ℕ → ℕ) (order lines : List ℕ) (o : Option Resident) → residents v ≡ o
    → among x lines ≡ false → IsVictim n mask residents age v
    → Keeps n mask Own residents age order lines
    → ((map (λ (u : ℕ). line_in (residents u)) (without v order) ≡ map (λ (y : ℕ). Some y) (without x lines))
    ⊎ ((k : ℕ) × (ways_below mask n ≡ suc k) × (map (λ (u : ℕ). line_in (residents u)) (without v order) ≡ map (λ (y : ℕ). Some y) (take k (without x lines)))))
map-without_filled n mask x v Own residents age order lines None is absent victim keeps =
    let f : ℕ → Option ℕ = λ u. line_in (residents u) in
    let out : among v order ≡ false = elim (cases_Bool (among v order)) [
      | inl a ↦
          let r = among-line_of_way f v order lines keeps.hold a in
          let none : line_in (residents v) ≡ None = ap line_in is in
          elim (none-some r.0 (sym none ∙ r.1)) [ ]
      | inr a ↦ a
    ] in
    inl (ap (λ l. map f l) (without-absent v order out) ∙ (keeps.hold ∙ ap (λ l. map (λ (y : ℕ). Some y) l) (sym (without-absent x lines absent))))
map-without_filled n mask x v Own residents age order lines (Some r) is absent victim keeps =
    let f : ℕ → Option ℕ = λ u. line_in (residents u) in
    let full : IsSome (residents v) = subst (λ (o : Option Resident). IsSome o) (sym is) refl in
    let all : (w : ℕ) → w < n → has_way mask w ≡ true → among w order ≡ true = λ w l m. keeps.complete w l m (victim.none_empty full w l m) in
    let count : length order + missing mask order n ≡ ways_below mask n = length-order mask n age order keeps.inside keeps.descends in
    let none : missing mask order n ≡ 0 = missing-all mask order n all in
    let member : among v order ≡ true = all v victim.within victim.allowed in
    let old : (w : ℕ) → among w order ≡ true → age v ≤ age w = λ w a. victim.oldest full w (keeps.inside w a).0 (keeps.inside w a).1 in
    let some : (k : ℕ) × (length order ≡ suc k) = not_empty v order member in
    inr (some.0, sym (omega (arith, some.1)), map-without_oldest f age v some.0 order lines keeps.hold keeps.descends member old some.1 ∙ ap (λ l. map (λ (y : ℕ). Some y) (take some.0 l)) (sym (without-absent x lines absent)))
  where
    not_empty : (v : ℕ) (l : List ℕ) → among v l ≡ true → (k : ℕ) × (length l ≡ suc k)
    not_empty v [] a = elim (false≢true a) [ ]
    not_empty v (u ∷ us) a = (length us, refl)

-- the same after any of the group's own accesses
map-without_used : (n mask x v : ℕ) (hit : Bool) (Own : ℕ → Type 0) (residents : ℕ → Option Resident) (age : ℕ → ℕ) (order lines : List ℕ) → Own x → IsOutcome n mask residents age x hit v
    → Keeps n mask Own residents age order lines
    → ((map (λ (u : ℕ). line_in (residents u)) (without v order) ≡ map (λ (y : ℕ). Some y) (without x lines))
    ⊎ ((k : ℕ) × (ways_below mask n ≡ suc k) × (map (λ (u : ℕ). line_in (residents u)) (without v order) ≡ map (λ (y : ℕ). Some y) (take k (without x lines)))))
map-without_used n mask x v true Own residents age order lines own outcome keeps =
    let way = way-own n mask x v true Own residents age order lines own outcome keeps in
    inl (map-without (λ u. line_in (residents u)) v x order lines keeps.hold outcome.1
    (λ u a h. keeps.alone u v x (keeps.inside u a).0 way.0 (keeps.inside u a).1 way.1 h outcome.1))
map-without_used n mask x v false Own residents age order lines own outcome keeps =
    map-without_filled n mask x v Own residents age order lines (residents v) refl (sym (hit-among n mask x v false Own residents age order lines own outcome keeps)) outcome.1 keeps

-- no other way of the mask holds the line
Holds-nowhere_else : (n mask x v : ℕ) (hit : Bool) (Own : ℕ → Type 0) (residents : ℕ → Option Resident) (age : ℕ → ℕ) (order lines : List ℕ) → Own x → IsOutcome n mask residents age x hit v
    → Keeps n mask Own residents age order lines → (u : ℕ) → u < n → has_way mask u ≡ true → (v == u) ≡ false → Holds residents x u → ⊥
Holds-nowhere_else n mask x v true Own residents age order lines own outcome keeps u l m k h =
    let way = way-own n mask x v true Own residents age order lines own outcome keeps in
    eqb-false v u k (keeps.alone v u x way.0 l way.1 m outcome.1 h)
Holds-nowhere_else n mask x v false Own residents age order lines own outcome keeps u l m k h = outcome.0 u l h

-- at an access of the group the ways keep as the private cache does
pub Keeps-used : (n mask x v t : ℕ) (hit : Bool) (Own : ℕ → Type 0) (residents residents' : ℕ → Option Resident) (age age' : ℕ → ℕ) (order lines : List ℕ) → Own x → IsOutcome n mask residents age x hit v
    → ((u : ℕ) → (v == u) ≡ false → residents' u ≡ residents u) → line_in (residents' v) ≡ Some x
    → ((u : ℕ) → (v == u) ≡ false → age' u ≡ age u) → age' v ≡ t → ((u : ℕ) → age u < t)
    → Keeps n mask Own residents age order lines
    → Keeps n mask Own residents' age' (v ∷ without v order) (take (ways_below mask n) (x ∷ without x lines))
Keeps-used n mask x v t hit Own residents residents' age age' order lines own outcome same now same_age age_now older keeps =
    let f : ℕ → Option ℕ = λ u. line_in (residents u) in
    let f' : ℕ → Option ℕ = λ u. line_in (residents' u) in
    let some : ℕ → Option ℕ = λ y. Some y in
    let way = way-own n mask x v hit Own residents age order lines own outcome keeps in
    let inside : (u : ℕ) → among u (v ∷ without v order) ≡ true → (u < n) × (has_way mask u ≡ true) = λ u a. elim (cases_Bool (v == u)) [
      | inl k ↦ subst (λ w. (w < n) × (has_way mask w ≡ true)) (eqb-true v u k) way
      | inr k ↦ let a' : among u (without v order) ≡ true = rw k at a in keeps.inside u (among-without_parts u v order a').1
    ] in
    let descends : Descends age' (v ∷ without v order) = (
      (λ w a.
          let parts = among-without_parts w v order a in
          let e : age' w ≡ age w = same_age w parts.0 in
          let l : age w < t = older w in omega arith),
      Descends-same age age' (without v order) (λ u a. sym (same_age u (among-without_parts u v order a).0)) (Descends-without age v order keeps.descends),
    ) in
    let behind : map f' (without v order) ≡ map f (without v order) = map-same f' f (without v order) (λ u a. ap line_in (same u (among-without_parts u v order a).0)) in
    let count : length (v ∷ without v order) + missing mask (v ∷ without v order) n ≡ ways_below mask n = length-order mask n age' (v ∷ without v order) inside descends in
    record {
      inside = inside;
      complete = λ u l m s. elim (cases_Bool (v == u)) [
        | inl k ↦ rw k refl
        | inr k ↦
            let s' : IsSome (residents u) = subst (λ (o : Option Resident). IsSome o) (same u k) s in
            rw k (among-without_other u v order (ne_eqb u v (λ e. eqb-false v u k (sym e))) ∙ keeps.complete u l m s')
      ];
      hold = elim (map-without_used n mask x v hit Own residents age order lines own outcome keeps) [
        | inl h ↦
            let whole : map f' (v ∷ without v order) ≡ map some (x ∷ without x lines) = ap (λ o. o ∷ map f' (without v order)) now ∙ ap (λ l. Some x ∷ l) (behind ∙ h) in
            let len : length (v ∷ without v order) ≡ length (x ∷ without x lines) = sym (length-map (v ∷ without v order) f') ∙ (ap length whole ∙ length-map (x ∷ without x lines) some) in
            whole ∙ ap (λ l. map some l) (sym (take_all (ways_below mask n) (x ∷ without x lines) (omega arith)))
        | inr h ↦
            let w : ways_below mask n ≡ suc h.0 = h.1 in
            rw w (ap (λ o. o ∷ map f' (without v order)) now ∙ ap (λ l. Some x ∷ l) (behind ∙ h.2))
      ];
      descends = descends;
      alone = λ u w y lu lw mu mw hu hw.
          let there : (z : ℕ) → (v == z) ≡ true → Holds residents' y z → y ≡ x = λ z k h. same_Some _ _ (sym h ∙ (ap (λ i. line_in (residents' i)) (sym (eqb-true v z k)) ∙ now)) in
          let back : (z : ℕ) → (v == z) ≡ false → Holds residents' y z → Holds residents y z = λ z k h. subst (λ (o : Option Resident). line_in o ≡ Some y) (same z k) h in
          let no : (z : ℕ) → z < n → has_way mask z ≡ true → (v == z) ≡ false → Holds residents' y z → y ≡ x → ⊥ =
          λ z l m k h e. Holds-nowhere_else n mask x v hit Own residents age order lines own outcome keeps z l m k (subst (λ i. Holds residents i z) e (back z k h)) in
          elim (cases_Bool (v == u)) [
            | inl k ↦ elim (cases_Bool (v == w)) [
              | inl j ↦ sym (eqb-true v u k) ∙ eqb-true v w j
              | inr j ↦ absurd (no w lw mw j hw (there u k hu))
            ]
            | inr k ↦ elim (cases_Bool (v == w)) [
              | inl j ↦ absurd (no u lu mu k hu (there w j hw))
              | inr j ↦ keeps.alone u w y lu lw mu mw (back u k hu) (back w j hw)
            ]
          ];
      others = λ u y l m h o. keeps.others u y l m (subst (λ (o : Option Resident). line_in o ≡ Some y) (same u (ne_eqb v u (λ e. true≢false (sym way.1 ∙ (ap (λ k. has_way mask k) e ∙ m))))) h) o;
      known = λ y a.
          let b : among y (x ∷ without x lines) ≡ true = among-take_some y (ways_below mask n) (x ∷ without x lines) a in
          elim (cases_Bool (x == y)) [
            | inl k ↦ subst Own (eqb-true x y k) own
            | inr k ↦ let c : among y (without x lines) ≡ true = rw k at b in keeps.known y (among-without_parts y x lines c).1
          ];
    }
