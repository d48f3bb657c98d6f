-- What placing and removing regions keeps.
use Rattle.std.proofs.Common.{◌≡◌, ◌≢◌, ℕ, zero, suc, ◌+◌, ◌^◌, ◌<◌, ◌≤◌, Bool, true, false, cond, List, [], ◌∷◌, length, map, Option, Some, None, inl, inr, sym, ap, ◌∙◌, arith}
use Rattle.std.proofs.Math.ListN.{set}
use Rattle.std.proofs.lemmas.Bool.{cases_eq}
use Rattle.std.proofs.lemmas.List.{length-map, length-set, get_or-set_same, get_or-set_other}
use Rattle.rc_base.specs.declared.names.Gid.{Gid}
use Rattle.pseudo_lock.specs.declared.region.Region.{Region}
use Rattle.pseudo_lock.specs.Regions.{IsLawful, IsNumbered, RegionTable, first_line_of, has_gid, next_region, region_in, with_region, without, without_group}

-- the first line of a region placed so far is below 2^60
pub first_line-low : (t : RegionTable) → IsLawful t → (domain : ℕ) (r : Region) → region_in t.places domain ≡ Some r → r.first_line < 2 ^ 60
first_line-low t lawful domain r e =
    let n : IsNumbered t.placed r.first_line = lawful.numbered domain r e in
    let limit : t.placed ≤ 4000000 = lawful.limit in
    omega arith

-- ---- placing

-- after a region was placed at a domain, a region is that one, at that domain, or was there before, at another
data At (places : List (Option Region)) (domain : ℕ) (new : Region) (other : ℕ) (r : Region) : Type 0 where
  here : other ≡ domain → r ≡ new → At places domain new other r
  before : other ≢ domain → region_in places other ≡ Some r → At places domain new other r

-- what is found after a region was placed at a domain
region_in-set : (places : List (Option Region)) (domain : ℕ) (new : Region) (other : ℕ) (r : Region) → domain < length places
    → region_in (set places domain (Some new)) other ≡ Some r → At places domain new other r
region_in-set places domain new other r lt e = elim (cases_eq other domain) [
  | inl same ↦
      let put : region_in (set places domain (Some new)) domain ≡ Some new = get_or-set_same places domain (Some new) None lt in
      let found : region_in (set places domain (Some new)) domain ≡ Some r = rw same at e in
      here same cc
  | inr differs ↦ before differs (sym (get_or-set_other places domain other (Some new) None differs) ∙ e)
]

-- a region more, where there was none
pub IsLawful-with_region : (t : RegionTable) (gid : Gid) (domain mask : ℕ) → IsLawful t → domain < 8 → t.placed < 4000000 → IsLawful (with_region (next_region t gid domain mask) t)
IsLawful-with_region t gid domain mask lawful lt limit = record {
  each = length-set t.places domain (Some (next_region t gid domain mask)) ∙ lawful.each;
  limit = omega arith;
  own = λ other r e. elim (found other r e) [
    | here same is ↦ ap (λ (s : Region). s.domain) is ∙ sym same
    | before ne was ↦ lawful.own other r was
  ];
  numbered = λ other r e. elim (found other r e) [
    | here same is ↦ record { number = t.placed; counted = omega arith; line = ap (λ (s : Region). s.first_line) is }
    | before ne was ↦ later (lawful.numbered other r was)
  ];
  differ = λ other more r s e f lines. elim (found other r e) [
    | here same is ↦ elim (found more s f) [
      | here too was ↦ same ∙ sym too
      | before ne was ↦ absurd (fresh (lawful.numbered more s was) (sym lines ∙ ap (λ (q : Region). q.first_line) is))
    ]
    | before ne was ↦ elim (found more s f) [
      | here too is ↦ absurd (fresh (lawful.numbered other r was) (lines ∙ ap (λ (q : Region). q.first_line) is))
      | before apart too ↦ lawful.differ other more r s was too lines
    ]
  ];
}
  where
    within : domain < length t.places
    within = let each : length t.places ≡ 8 = lawful.each in omega arith

    found : (other : ℕ) (r : Region) → region_in (set t.places domain (Some (next_region t gid domain mask))) other ≡ Some r → At t.places domain (next_region t gid domain mask) other r
    found other r e = region_in-set t.places domain (next_region t gid domain mask) other r within e

    later : {line : ℕ} → IsNumbered t.placed line → IsNumbered (t.placed + 1) line
    later n = record { number = n.number; counted = omega arith; line = n.line }

    fresh : {line : ℕ} → IsNumbered t.placed line → line ≡ first_line_of t.placed → ⊥
    fresh n e = omega arith

-- ---- removing

-- a place that still has a region after a removal had this one before
without-some : (gid : Gid) (place : Option Region) (r : Region) → without gid place ≡ Some r → place ≡ Some r
without-some gid None r e = e
without-some gid (Some s) r e = either (has_gid gid s) e
  where
    either : (b : Bool) → cond b None (Some s) ≡ Some r → Some s ≡ Some r
    either true e = absurd cc
    either false e = e

-- a region that is left was there before
region_in-without : (gid : Gid) (places : List (Option Region)) (domain : ℕ) (r : Region) → region_in (map (without gid) places) domain ≡ Some r → region_in places domain ≡ Some r
region_in-without gid [] domain r e = e
region_in-without gid (place ∷ places) zero r e = without-some gid place r e
region_in-without gid (place ∷ places) (suc domain) r e = region_in-without gid places domain r e

-- the regions of a group fewer
pub IsLawful-without_group : (t : RegionTable) (gid : Gid) → IsLawful t → IsLawful (without_group gid t)
IsLawful-without_group t gid lawful = record {
  each = length-map t.places (without gid) ∙ lawful.each;
  limit = lawful.limit;
  own = λ domain r e. lawful.own domain r (region_in-without gid t.places domain r e);
  numbered = λ domain r e. lawful.numbered domain r (region_in-without gid t.places domain r e);
  differ = λ domain other r s e f. lawful.differ domain other r s (region_in-without gid t.places domain r e) (region_in-without gid t.places other s f);
}
