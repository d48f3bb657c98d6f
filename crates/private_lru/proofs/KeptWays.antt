-- What uses of others, openings and drops leave of the ways of a mask: they hold what a private cache keeps.
use Rattle.std.proofs.Common.{◌≡◌, ℕ, ◌<◌, ◌≤◌, Bool, true, false, ◌==◌, List, [], map, Option, Some, None, IsSome, arith, refl, sym, ◌∙◌, ap, subst, inl, inr}
use Rattle.std.proofs.lemmas.Bool.{cases_Bool, eqb-true, eqb-false, ne_eqb, true≢false, false≢true}
use Rattle.std.proofs.lemmas.Option.{none-some, same_Some}
use Rattle.cbm.specs.Masks.{has_way, overlaps}
use Rattle.cbm.proofs.laws.Overlaps.{has_way-apart}
use Rattle.cache_core.specs.Fills.{Resident, Holds, IsOutcome}
use Rattle.private_lru.specs.Private.{among, without}
use Rattle.private_lru.proofs.Recency.{among-without_other}
use Rattle.private_lru.proofs.WayLines.{Descends, Descends-same, Descends-without, IsSome-line_in, among-line_of_way, among-way_of_line, among-without_parts, line_in, map-same, map-without}

-- The ways of the mask hold just these lines, the one used last in map-without_used; no other way holds a line of the group.
pub record Keeps (ways mask : ℕ) (Own : ℕ → Type 0) (residents : ℕ → Option Resident) (age : ℕ → ℕ) (order lines : List ℕ) : Type 0 where
  pub inside : (v : ℕ) → among v order ≡ true → (v < ways) × (has_way mask v ≡ true)
  pub complete : (v : ℕ) → v < ways → has_way mask v ≡ true → IsSome (residents v) → among v order ≡ true
  pub hold : map (λ (v : ℕ). line_in (residents v)) order ≡ map (λ (y : ℕ). Some y) lines
  pub descends : Descends age order
  pub alone : (u v y : ℕ) → u < ways → v < ways → has_way mask u ≡ true → has_way mask v ≡ true → Holds residents y u → Holds residents y v → u ≡ v
  pub others : (v y : ℕ) → v < ways → has_way mask v ≡ false → Holds residents y v → Own y → ⊥
  pub known : (y : ℕ) → among y lines ≡ true → Own y

-- a use of a way of another mask, by a line that is none of the group's
pub Keeps-passed : (n mask v : ℕ) (Own : ℕ → Type 0) (residents residents' : ℕ → Option Resident) (age age' : ℕ → ℕ) (order lines : List ℕ)
    → has_way mask v ≡ false → ((u : ℕ) → (v == u) ≡ false → residents' u ≡ residents u) → ((y : ℕ) → Holds residents' y v → Own y → ⊥)
    → ((u : ℕ) → (v == u) ≡ false → age' u ≡ age u)
    → Keeps n mask Own residents age order lines → Keeps n mask Own residents' age' order lines
Keeps-passed n mask v Own residents residents' age age' order lines off same now same_age keeps =
    let apart : (u : ℕ) → has_way mask u ≡ true → (v == u) ≡ false = λ u m. ne_eqb v u (λ e. true≢false (sym m ∙ (ap (λ k. has_way mask k) (sym e) ∙ off))) in
    let back : (u y : ℕ) → (v == u) ≡ false → Holds residents' y u → Holds residents y u = λ u y k h. subst (λ (o : Option Resident). line_in o ≡ Some y) (same u k) h in
    record {
      inside = keeps.inside;
      complete = λ u l m s. keeps.complete u l m (subst (λ (o : Option Resident). IsSome o) (same u (apart u m)) s);
      hold = map-same (λ u. line_in (residents' u)) (λ u. line_in (residents u)) order (λ u a. ap line_in (same u (apart u (keeps.inside u a).1))) ∙ keeps.hold;
      descends = Descends-same age age' order (λ u a. sym (same_age u (apart u (keeps.inside u a).1))) keeps.descends;
      alone = λ u w y lu lw mu mw hu hw. keeps.alone u w y lu lw mu mw (back u y (apart u mu) hu) (back w y (apart w mw) hw);
      others = λ u y l m h o. elim (cases_Bool (v == u)) [
        | inl k ↦ now y (subst (λ w. Holds residents' y w) (sym (eqb-true v u k)) h) o
        | inr k ↦ keeps.others u y l m (back u y k h) o
      ];
      known = keeps.known;
    }

-- at a window's opening the ways of the mask are empty
pub Keeps-emptied : (n mask : ℕ) (Own : ℕ → Type 0) (residents : ℕ → Option Resident) (age : ℕ → ℕ) → ((v : ℕ) → v < n → has_way mask v ≡ true → IsSome (residents v) → ⊥)
    → ((v y : ℕ) → v < n → has_way mask v ≡ false → Holds residents y v → Own y → ⊥) → Keeps n mask Own residents age [] []
Keeps-emptied n mask Own residents age empty others = record {
  inside = λ v a. elim (false≢true a) [ ];
  complete = λ v l m s. absurd (empty v l m s);
  hold = refl;
  descends = tt;
  alone = λ u v y lu lv mu mv hu hv. absurd (empty u lu mu (IsSome-line_in (residents u) y hu));
  others = others;
  known = λ y a. elim (false≢true a) [ ];
}

-- a way that holds a line that is none of the group's is of another mask
pub has_way-foreign : (n mask x v : ℕ) (Own : ℕ → Type 0) (residents : ℕ → Option Resident) (age : ℕ → ℕ) (order lines : List ℕ) → (Own x → ⊥) → v < n → Holds residents x v
    → Keeps n mask Own residents age order lines → has_way mask v ≡ false
has_way-foreign n mask x v Own residents age order lines foreign inside holds keeps =
    elim (cases_Bool (has_way mask v)) [
      | inl m ↦
          let a : among v order ≡ true = keeps.complete v inside m (IsSome-line_in (residents v) x holds) in
          let r = among-line_of_way (λ (u : ℕ). line_in (residents u)) v order lines keeps.hold a in
          let same : r.0 ≡ x = same_Some _ _ (sym r.1 ∙ holds) in
          absurd (foreign (subst Own same (keeps.known r.0 r.2)))
      | inr m ↦ m
    ]

-- the way of another's access, to a line that is none of the group's, is of another mask
pub has_way-other : (n mask its x v : ℕ) (hit : Bool) (Own : ℕ → Type 0) (residents : ℕ → Option Resident) (age : ℕ → ℕ) (order lines : List ℕ) → n ≤ 64 → overlaps its mask ≡ false → (Own x → ⊥) → IsOutcome n its residents age x hit v
    → Keeps n mask Own residents age order lines → has_way mask v ≡ false
has_way-other n mask its x v true Own residents age order lines narrow apart foreign outcome keeps = has_way-foreign n mask x v Own residents age order lines foreign outcome.0 outcome.1 keeps
has_way-other n mask its x v false Own residents age order lines narrow apart foreign outcome keeps =
    elim (cases_Bool (has_way mask v)) [
      | inl m ↦ absurd (true≢false (sym m ∙ has_way-apart its mask v apart (let l : v < n = outcome.1.within in omega arith) outcome.1.allowed))
      | inr m ↦ m
    ]

-- ---- drops

-- a line that no way holds is not kept
pub among-nowhere : (n mask x : ℕ) (Own : ℕ → Type 0) (residents : ℕ → Option Resident) (age : ℕ → ℕ) (order lines : List ℕ) → ((w : ℕ) → w < n → Holds residents x w → ⊥)
    → Keeps n mask Own residents age order lines → among x lines ≡ false
among-nowhere n mask x Own residents age order lines nowhere keeps =
    elim (cases_Bool (among x lines)) [
      | inl a ↦
          let r = among-way_of_line (λ (u : ℕ). line_in (residents u)) x order lines keeps.hold a in
          absurd (nowhere r.0 (keeps.inside r.0 r.1).0 r.2)
      | inr a ↦ a
    ]

-- the way of one of the group's lines is emptied
pub Keeps-dropped : (n mask x v : ℕ) (Own : ℕ → Type 0) (residents residents' : ℕ → Option Resident) (age : ℕ → ℕ) (order lines : List ℕ) → Own x → v < n → Holds residents x v
    → ((u : ℕ) → (v == u) ≡ false → residents' u ≡ residents u) → residents' v ≡ None
    → Keeps n mask Own residents age order lines → Keeps n mask Own residents' age (without v order) (without x lines)
Keeps-dropped n mask x v Own residents residents' age order lines own inside holds same none keeps =
    let f : ℕ → Option ℕ = λ u. line_in (residents u) in
    let f' : ℕ → Option ℕ = λ u. line_in (residents' u) in
    let m : has_way mask v ≡ true = elim (cases_Bool (has_way mask v)) [ inl m ↦ m | inr m ↦ absurd (keeps.others v x inside m holds own) ] in
    let back : (u y : ℕ) → Holds residents' y u → Holds residents y u = λ u y h. elim (cases_Bool (v == u)) [
      | inl k ↦ let gone : None ≡ Some y = sym (ap line_in (subst (λ w. residents' w ≡ None) (eqb-true v u k) none)) ∙ h in elim (none-some y gone) [ ]
      | inr k ↦ subst (λ (o : Option Resident). line_in o ≡ Some y) (same u k) h
    ] in
    record {
      inside = λ u a. keeps.inside u (among-without_parts u v order a).1;
      complete = λ u l k s. elim (cases_Bool (v == u)) [
        | inl e ↦ elim (false≢true (subst (λ (o : Option Resident). IsSome o) (subst (λ w. residents' w ≡ None) (eqb-true v u e) none) s)) [ ]
        | inr e ↦ among-without_other u v order (ne_eqb u v (λ t. eqb-false v u e (sym t))) ∙ keeps.complete u l k (subst (λ (o : Option Resident). IsSome o) (same u e) s)
      ];
      hold = map-same f' f (without v order) (λ u a. ap line_in (same u (among-without_parts u v order a).0))
          ∙ map-without f v x order lines keeps.hold holds (λ u a h. keeps.alone u v x (keeps.inside u a).0 inside (keeps.inside u a).1 m h holds);
      descends = Descends-without age v order keeps.descends;
      alone = λ u w y lu lw mu mw hu hw. keeps.alone u w y lu lw mu mw (back u y hu) (back w y hw);
      others = λ u y l k h o. keeps.others u y l k (back u y h) o;
      known = λ y a. keeps.known y (among-without_parts y x lines a).1;
    }
