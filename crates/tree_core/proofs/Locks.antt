-- The lock of a region: the group that locks it, and the place of the region.
use Rattle.std.proofs.Common.{◌≡◌, ◌≢◌, ℕ, ◌<◌, Bool, true, false, not, cond, eqb, List, length, find, get_or, set, slice_set, take, Option, None, Some, Result, Ok, Err, refl, sym, ap, ◌∙◌, arith}
use Rattle.std.specs.Option.{option_map_or}
use Rattle.std.proofs.Math.Seq.{take-set-lt}
use Rattle.std.proofs.lemmas.Bool.{eqb-true}
use Rattle.std.proofs.lemmas.List.{get_or-take}
use Rattle.std.proofs.lemmas.Option.{slice_get-get_or}
use Rattle.group_tree.specs.Records.{has_gid, is_control}
use Rattle.group_tree.specs.declared.group.Group.{Group}
use Rattle.group_tree.specs.declared.group_kind.GroupKind.{GroupKind}
use Rattle.group_tree.specs.declared.group_kind.GroupKind.TheVariants.{Control, Monitor}
use Rattle.lists.proofs.Keyed.{place-key}
use Rattle.lists.proofs.Tests.{find-found}
use Rattle.machine.specs.declared.parameters.Parameters.{Parameters}
use Rattle.mode_rules.specs.Overlaps.{has_region, write_overlap}
use Rattle.mode_rules.specs.declared.overlap.Overlap.{Overlap}
use Rattle.mode_rules.specs.declared.overlap.Overlap.TheVariants as overlap
use Rattle.pseudo_lock.specs.Regions.{region_in}
use Rattle.pseudo_lock.specs.declared.region.Region.{Region}
use Rattle.rc_base.specs.declared.names.Gid.{Gid}
use Rattle.rc_base.specs.declared.names.Mode.TheVariants.{LockSetup}
use Rattle.tree_core.proofs.Assignments.{mask-valid}
use Rattle.tree_core.proofs.KeptTables.{IsDefault-first, length-positive}
use Rattle.tree_core.specs.Kept.{Keeps}
use Rattle.tree_core.specs.Tables.{Tables}
use Rattle.tree_law.specs.Counted.{is_counted, is_counted_mode}
use Rattle.tree_law.specs.Space.{region_mask, used_in}
use Rattle.tree_law.specs.State.{State}

-- the first of five tests that holds
abbrev first_of_five : Bool → Bool → Bool → Bool → Bool → Result (Unit {0}) Overlap
first_of_five a b c d e = cond a (Err overlap.Exclusive) (cond b (Err overlap.Region) (cond c (Err overlap.Other) (cond d (Err overlap.Hardware) (cond e (Err overlap.HasRegion) (Ok tt)))))

-- an overlap that is found is one
not_found : (o : Overlap) → ◌≡◌ {A = Result (Unit {0}) Overlap} (Err o) (Ok tt) → ⊥
not_found o e = cc

-- the last of them fails where none holds
no_region : (a b c d e : Bool) → first_of_five a b c d e ≡ Ok tt → e ≡ false
no_region true b c d e is = absurd (not_found overlap.Exclusive is)
no_region false true c d e is = absurd (not_found overlap.Region is)
no_region false false true d e is = absurd (not_found overlap.Other is)
no_region false false false true e is = absurd (not_found overlap.Hardware is)
no_region false false false false true is = absurd (not_found overlap.HasRegion is)
no_region false false false false false is = refl

module _ {m : Parameters} {t : Tables} {s : State} {epoch : ℕ} (keeps : Keeps m t s epoch) where
  -- a group that is not counted is not the default group
  pub gid-not_default : (g : Group) → find (has_gid g.gid) s.groups ≡ Some g → is_counted_mode g.mode ≡ false → g.gid.0 ≢ 0
  gid-not_default g found other zeroth =
      let f = find-found (has_gid g.gid) s.groups g found in
      let first = IsDefault-first s.groups g keeps.sound.named.first in
      let same : (get_or s.groups f.place g).gid.0 ≡ (get_or s.groups 0 g).gid.0 = ap (λ (x : Group). x.gid.0) (f.at g) ∙ zeroth ∙ sym first.gid in
      let place : f.place ≡ 0 = place-key (λ (x : Group). x.gid.0) s.groups f.place 0 g keeps.sound.named.gids f.within (length-positive s.groups keeps.sound.named.first) same in
      let is_first : g ≡ get_or s.groups 0 g = sym (f.at g) ∙ ap (λ (k : ℕ). get_or s.groups k g) place in
      not_counted g.kind (ap is_counted is_first ∙ first.counted)
    where
      not_counted : (kind : GroupKind) → cond (is_control kind) (is_counted_mode g.mode) false ≡ true → ⊥
      not_counted Control e = let f : false ≡ true = sym other ∙ e in cc
      not_counted (Monitor parent) e = let f : false ≡ true = e in cc

  -- a domain whose region has no ways has none
  get_or-no_region : (domain : ℕ) → domain < m.domains → region_mask s.regions domain ≡ 0 → get_or s.regions domain None ≡ None
  get_or-no_region domain below empty = at (get_or s.regions domain None) refl
    where
      at : (o : Option Region) → get_or s.regions domain None ≡ o → o ≡ None
      at None is = refl
      at (Some r) is =
          (let within : domain < length s.regions = omega (arith, keeps.sound.regions.each, below) in
          let valid = (keeps.sound.regions.lawful domain r (slice_get-get_or s.regions domain None within ∙ ap Some is)).valid in
          let some = (mask-valid m r.mask valid).0 in
          let mask : region_mask s.regions domain ≡ r.mask = ap (λ (o : Option Region). option_map_or (λ (q : Region). q.mask) o 0) is in
          absurd (omega arith))

  -- a group in pseudo-locksetup locks a domain that has no region
  pub region_in-free : (gid : Option Gid) (mask domain : ℕ) → domain < m.domains → write_overlap LockSetup mask (used_in m s gid domain) ≡ Ok tt → region_in t.regions.places domain ≡ None
  unfolding write_overlap
  region_in-free gid mask domain below free =
      let none : has_region (used_in m s gid domain) ≡ false = no_region _ _ _ _ (has_region (used_in m s gid domain)) free in
      let empty : region_mask s.regions domain ≡ 0 = zero_is (region_mask s.regions domain) none in
      sym (get_or-take m.domains t.regions.places domain None below) ∙ ap (λ (rs : List (Option Region)). get_or rs domain None) keeps.stands.regions ∙ get_or-no_region domain below empty
    where
      zero_is : (n : ℕ) → not (eqb n 0) ≡ false → n ≡ 0
      zero_is n e = at (eqb n 0) refl e
        where
          at : (b : Bool) → eqb n 0 ≡ b → not b ≡ false → n ≡ 0
          at true is e' = eqb-true n 0 is
          at false is e' = absurd (let f : true ≡ false = e' in cc)

  -- the region is put at its domain
  pub regions-placed : (domain : ℕ) (r : Region) → domain < m.domains → take m.domains (slice_set t.regions.places domain (Some r)) ≡ set s.regions domain (Some r)
  regions-placed domain r below = take-set-lt m.domains t.regions.places domain (Some r) below ∙ ap (λ (rs : List (Option Region)). set rs domain (Some r)) keeps.stands.regions
