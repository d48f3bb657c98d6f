-- A write of `schemata` that locks a region keeps a sound tree.
use Rattle.std.proofs.Common.{◌≡◌, ℕ, ◌<◌, Bool, true, false, not, cond, eqb, List, length, find, get_or, replicate, set, Option, None, Some, IfSome, IsNone, Result, Ok, Err, ◌⊎◌, inl, inr, refl, sym, subst, ap, ◌∙◌, arith, length-set}
use Rattle.std.specs.List.{slice_get}
use Rattle.std.specs.Option.{option_map_or}
use Rattle.std.proofs.lemmas.Bool.{eqb-true, eqb-false, eq-eqb, or_parts, not-false}
use Rattle.std.proofs.lemmas.List.{get_or-map, length-map, length-replicate}
use Rattle.std.proofs.lemmas.List.Folds.{list_any_at}
use Rattle.std.proofs.lemmas.Option.{slice_get-get_or, same_Some}
use Rattle.cbm.proofs.laws.Validity.{checked-zero}
use Rattle.cbm.specs.Masks.{overlaps}
use Rattle.cbm.specs.declared.fault.CbmFault.{CbmFault}
use Rattle.cbm.specs.declared.fault.CbmFault.TheVariants.{Range}
use Rattle.group_tree.specs.Lists.{exchanged, replaced}
use Rattle.group_tree.specs.Records.{has_gid, has_mode, is_control, mask_in}
use Rattle.group_tree.specs.declared.group.Group.{Group}
use Rattle.group_tree.specs.declared.group_kind.GroupKind.{GroupKind}
use Rattle.group_tree.specs.declared.group_kind.GroupKind.TheVariants.{Control, Monitor}
use Rattle.lists.proofs.Keyed.{All-replaced_kept, All-replaced, list_any-replaced}
use Rattle.lists.proofs.Updates.{filter-set, length-filter_set, slice_get-set_other, slice_get-set_same}
use Rattle.lists.proofs.Tests.{IsFound, find-found, IsFound-all}
use Rattle.machine.specs.Ranges.{InRange}
use Rattle.machine.specs.declared.parameters.Parameters.{Parameters}
use Rattle.mode_rules.specs.Overlaps.{has_region, overlaps_counted, write_overlap}
use Rattle.rc_base.specs.declared.names.Mode.{Mode}
use Rattle.rc_base.specs.declared.names.Mode.TheVariants.{Shareable, Exclusive, LockSetup, Locked}
use Rattle.schemata_text.specs.declared.assignment.Assignment.{Assignment}
use Rattle.tree_law.proofs.Groups.{has_gid-own, gid_number}
use Rattle.tree_law.proofs.laws.Refusals.{cond-Ok}
use Rattle.tree_law.proofs.ModeTests.{HasIds-control}
use Rattle.tree_law.proofs.NewRecords.{AreBound-replaced, HaveMasks-replaced, AreNamed-replaced, AreNumbered-replaced, AreServed-replaced}
use Rattle.tree_law.proofs.laws.Unions.{AreApart-each, has_mode-counted, is_other_in-mode}
use Rattle.tree_law.specs.Masks.{AreApart, IsValid}
use Rattle.tree_law.specs.Regions.{HasNoOther, HasOneRegion, HaveRegions, IsRegion, OffCounted, has_region_of, holds_region}
use Rattle.tree_law.specs.Sound.{HasIds, HasIdsOf, IsSound, IsUsed}
use Rattle.tree_law.specs.Space.{geometry_of, region_mask, used_in}
use Rattle.tree_law.specs.State.{State}
use Rattle.pseudo_lock.specs.declared.region.Region.{Region}
use Rattle.tree_law.specs.commands.Schemata.{locked, region_for, with_region}
use Rattle.tree_law.proofs.LockedRecords.{is_counted-setup, is_counted-locked, has_mode-setup, has_mode-locked, has_region_of-none, mask_in-locked, mask_in-locked_other, HaveLines-locked}
use Rattle.mode_rules.specs.declared.overlap.Overlap.TheVariants as overlap

module _ (m : Parameters) (s : State) (g : Group) (a : Assignment) (sound : IsSound m s) (found : find (has_gid g.gid) s.groups ≡ Some g) (control : is_control g.kind ≡ true) (setup : g.mode ≡ LockSetup)
    (range : InRange m) (exists : a.domain < m.domains) (valid : IsValid m a.mask) (free : write_overlap LockSetup a.mask (used_in m s (Some g.gid) a.domain) ≡ Ok tt) where
  -- the record of the locked group
  abbrev new : Group
  new = locked g a

  -- the group is found by its gid
  IsFound-gid : IsFound (has_gid g.gid) s.groups g
  IsFound-gid = find-found (has_gid g.gid) s.groups g found

  -- the domain has a place among the regions
  domain-below : a.domain < length s.regions
  domain-below = omega (arith, sound.regions.each, exists)

  -- what the tests give
  record Tests : Type 0 where
    pub exclusive : overlaps a.mask (used_in m s (Some g.gid) a.domain).exclusive ≡ false
    pub shared : overlaps a.mask (used_in m s (Some g.gid) a.domain).shared ≡ false
    pub shareable : overlaps a.mask m.shareable ≡ false
    pub no_region : has_region (used_in m s (Some g.gid) a.domain) ≡ false

  -- where no overlap is found, each test is passed
  Tests-write_overlap : Tests
  unfolding write_overlap
  Tests-write_overlap =
      let used = used_in m s (Some g.gid) a.domain in
      let one = cond-Ok (overlaps a.mask used.exclusive) overlap.Exclusive _ tt free in
      let two = cond-Ok (overlaps a.mask used.region) overlap.Region _ tt one.1 in
      let three = cond-Ok (overlaps_counted a.mask used) overlap.Other _ tt two.1 in
      let four = cond-Ok (overlaps a.mask used.hardware) overlap.Hardware _ tt three.1 in
      let five = cond-Ok (has_region used) overlap.HasRegion _ tt four.1 in
      let both = or_parts (overlaps a.mask used.shared) (overlaps a.mask used.exclusive) three.0 in
      record { exclusive = one.0; shared = both.0; shareable = four.0; no_region = five.0 }

  -- the domain has no region yet
  get_or-no_region : get_or s.regions a.domain None ≡ None
  get_or-no_region = at (get_or s.regions a.domain None) refl
    where
      zero_is : (n : ℕ) → not (eqb n 0) ≡ false → n ≡ 0
      zero_is n e = eqb-true n 0 (not-false (eqb n 0) e)

      at : (o : Option Region) → get_or s.regions a.domain None ≡ o → o ≡ None
      at None is = refl
      at (Some r) is =
          (let there : slice_get s.regions a.domain ≡ Some (Some r) = slice_get-get_or s.regions a.domain None domain-below ∙ ap Some is in
          let old = (sound.regions.lawful a.domain r there).valid.faultless in
          let mask : region_mask s.regions a.domain ≡ r.mask = ap (λ (o : Option Region). option_map_or (λ (q : Region). q.mask) o 0) is in
          let empty : r.mask ≡ 0 = sym mask ∙ zero_is (region_mask s.regions a.domain) Tests-write_overlap.no_region in
          let bad : ◌≡◌ {A = Result ℕ CbmFault} (Err Range) (Ok r.mask) = checked-zero (geometry_of m) r.mask empty ∙ old in
          absurd (let f = bad in cc))

  -- the groups with the locked record
  abbrev groups' : List Group
  groups' = replaced (locked g a) s.groups

  -- the regions with the new one
  abbrev regions' : List (Option Region)
  regions' = set s.regions a.domain (Some (region_for s g a))

  -- the new region
  IsRegion-new : IsRegion m groups' a.domain (region_for s g a)
  IsRegion-new = record {
    own = refl;
    valid = valid;
    off_shareable = Tests-write_overlap.shareable;
    off_counted = All-replaced gid_number s.groups new g sound.named.gids found (OffCounted a.domain a.mask) (λ c. absurd (is_counted-locked g a c)) (λ k d lt other c. at k d lt other (has_mode-counted (get_or s.groups k d) c));
    held = list_any_at (holds_region a.domain (region_for s g a)) groups' IsFound-gid.place g (omega (arith, IsFound-gid.within, length-map s.groups (exchanged new)))
        (ap (holds_region a.domain (region_for s g a)) (get_or-map (exchanged new) s.groups IsFound-gid.place g g IsFound-gid.within ∙ ap (exchanged new) (IsFound-gid.at g) ∙ mine (has_gid g.gid g) (has_gid-own g)) ∙ passes);
  }
    where
      at : (k : ℕ) (d : Group) → k < length s.groups → has_gid g.gid (get_or s.groups k d) ≡ false → (has_mode Shareable (get_or s.groups k d) ≡ true) ⊎ (has_mode Exclusive (get_or s.groups k d) ≡ true) → AreApart a.mask (mask_in a.domain (get_or s.groups k d))
      at k d lt other (inl is) = AreApart-each a.mask a.domain s.groups (Some g.gid) Shareable Tests-write_overlap.shared k d lt (is_other_in-mode g.gid Shareable (get_or s.groups k d) other is)
      at k d lt other (inr is) = AreApart-each a.mask a.domain s.groups (Some g.gid) Exclusive Tests-write_overlap.exclusive k d lt (is_other_in-mode g.gid Exclusive (get_or s.groups k d) other is)

      mine : (b : Bool) → b ≡ true → cond b new g ≡ new
      mine true e = refl
      mine false e = absurd (let f : false ≡ true = e in cc)

      passes : holds_region a.domain (region_for s g a) new ≡ true
      passes = rw (has_gid-own g, has_mode-locked g a control, mask_in-locked m g a range exists, eq-eqb a.mask a.mask refl) refl

  -- an old one
  IsRegion-old : (domain : ℕ) (r : Region) → slice_get s.regions domain ≡ Some (Some r) → IsRegion m groups' domain r
  IsRegion-old domain r there = (let old = sound.regions.lawful domain r there in record {
    own = old.own;
    valid = old.valid;
    off_shareable = old.off_shareable;
    off_counted = All-replaced_kept gid_number s.groups new g sound.named.gids found (OffCounted domain r.mask) (λ c. absurd (is_counted-locked g a c)) old.off_counted;
    held = list_any-replaced gid_number s.groups new g sound.named.gids found (holds_region domain r) (λ passes. absurd (held (has_gid r.gid g) (has_mode Locked g) (has_mode-setup g setup) passes)) old.held;
  })
    where
      held : (p q : Bool) → q ≡ false → cond p (cond q (eqb (mask_in domain g) r.mask) false) false ≡ true → ⊥
      held true true was e = let f : true ≡ false = was in cc
      held true false was e = let f : false ≡ true = e in cc
      held false q was e = let f : false ≡ true = e in cc

  -- the regions and the records still tell each other
  HaveRegions-locked : HaveRegions m groups' regions'
  HaveRegions-locked = record {
    each = length-set s.regions a.domain (Some (region_for s g a)) ∙ sound.regions.each;
    lawful = λ domain r there. lawful domain r (eqb domain a.domain) refl there;
    once = All-replaced gid_number s.groups new g sound.named.gids found (HasOneRegion regions')
        (λ is. length-filter_set (has_region_of g.gid) s.regions a.domain (Some (region_for s g a)) (has_region_of-none m s g sound found setup) domain-below (eq-eqb g.gid.0 g.gid.0 refl))
        (λ k d lt other is. ap length (filter-set (has_region_of (get_or s.groups k d).gid) s.regions a.domain (Some (region_for s g a)) None domain-below (ap (has_region_of (get_or s.groups k d).gid) get_or-no_region) other) ∙ sound.regions.once k d lt is);
    no_other = All-replaced gid_number s.groups new g sound.named.gids found (HasNoOther regions')
        (λ is domain lt r there none. mask_in-locked_other g a domain (λ e. elsewhere r (sym (ap (slice_get regions') e ∙ slice_get-set_same s.regions a.domain (Some (region_for s g a)) domain-below) ∙ there) none))
        (λ k d lt other is domain lt' r there none. others k d lt is domain (omega (arith, lt', length-set s.regions a.domain (Some (region_for s g a)))) r (eqb domain a.domain) refl there none);
  }
    where
      lawful : (domain : ℕ) (r : Region) (b : Bool) → eqb domain a.domain ≡ b → slice_get regions' domain ≡ Some (Some r) → IsRegion m groups' domain r
      lawful domain r true is there =
          (let same : domain ≡ a.domain = eqb-true domain a.domain is in
          let one : region_for s g a ≡ r = same_Some (region_for s g a) r (same_Some (Some (region_for s g a)) (Some r) (sym (slice_get-set_same s.regions a.domain (Some (region_for s g a)) domain-below) ∙ ap (slice_get regions') (sym same) ∙ there)) in
          subst (λ (n : ℕ). IsRegion m groups' n r) (sym same) (subst (IsRegion m groups' a.domain) one IsRegion-new))
      lawful domain r false is there = IsRegion-old domain r (sym (slice_get-set_other s.regions a.domain domain (Some (region_for s g a)) (eqb-false domain a.domain is)) ∙ there)

      elsewhere : (r : Option Region) → ◌≡◌ {A = Option (Option Region)} (Some (Some (region_for s g a))) (Some r) → has_region_of g.gid r ≡ false → ⊥
      elsewhere r e none = (let same : Some (region_for s g a) ≡ r = same_Some (Some (region_for s g a)) r e in
          let f : true ≡ false = sym (eq-eqb g.gid.0 g.gid.0 refl) ∙ ap (has_region_of g.gid) same ∙ none in cc)

      others : (k : ℕ) (d : Group) → k < length s.groups → has_mode Locked (get_or s.groups k d) ≡ true → (domain : ℕ) → domain < length s.regions → (r : Option Region) (b : Bool) → eqb domain a.domain ≡ b
          → slice_get regions' domain ≡ Some r → has_region_of (get_or s.groups k d).gid r ≡ false → mask_in domain (get_or s.groups k d) ≡ 0
      others k d lt lock domain lt' r true is there none =
          (let same : domain ≡ a.domain = eqb-true domain a.domain is in
          sound.regions.no_other k d lt lock domain lt' None (slice_get-get_or s.regions domain None lt' ∙ ap (λ (n : ℕ). Some (get_or s.regions n None)) same ∙ ap Some get_or-no_region) refl)
      others k d lt lock domain lt' r false is there none =
          sound.regions.no_other k d lt lock domain lt' r (sym (slice_get-set_other s.regions a.domain domain (Some (region_for s g a)) (eqb-false domain a.domain is)) ∙ there) none

  -- a locked group with its region keeps a sound tree
  pub with_region-sound : IsSound m (with_region s g a)
  with_region-sound = (let gids = sound.named.gids in let masks = set (replicate 8 0) a.domain a.mask in record {
    named = AreNamed-replaced s.groups g Locked None g.rmid masks gids found s.next_gid sound.named (λ d. absurd (is_counted-setup g setup d.counted));
    numbered = AreNumbered-replaced s.groups g Locked None g.rmid masks gids found m s.limbo sound.numbered
        (λ k d parent lt is. inl (λ c. absurd (is_counted-setup g setup c)))
        (HasIds-control groups' g.kind new Locked refl control (refl, no_rmid g.kind control (IsFound-all (λ (x : Group). HasIds s.groups x.kind x) (has_gid g.gid) s.groups g IsFound-gid sound.numbered.ids)))
        tt
        (IsFound-all (λ (x : Group). IfSome x.rmid (IsUsed m s.limbo)) (has_gid g.gid) s.groups g IsFound-gid sound.numbered.rmids)
        (λ k d lt other old. (tt, old.1));
    masks = HaveMasks-replaced s.groups g Locked None g.rmid masks gids found m sound.masks
        (length-set (replicate 8 0) a.domain a.mask ∙ length-replicate {A = ℕ} 8 0)
        (λ domain lt c u. absurd (u refl))
        (λ domain lt k d lt' other keep cn cx either. absurd (is_counted-locked g a cn))
        (λ domain lt cn e. absurd (is_counted-locked g a cn));
    regions = HaveRegions-locked;
    lines = HaveLines-locked m s g a sound;
    threshold = sound.threshold;
    tasks = AreBound-replaced s.groups g Locked None g.rmid masks gids found s.tasks (λ k d lt. inl (λ c. absurd (is_counted-setup g setup c))) sound.tasks;
    cpus = AreServed-replaced s.groups g Locked None g.rmid masks gids found m s.cpus (λ k d lt. inl (λ c. absurd (is_counted-setup g setup c))) sound.cpus;
  })
    where
      no_rmid : (kind : GroupKind) → is_control kind ≡ true → HasIds s.groups kind g → IsNone g.rmid
      no_rmid Control c has = (subst (λ (x : Mode). HasIdsOf x g) setup has).1
      no_rmid (Monitor p) c has = absurd (let f : false ≡ true = c in cc)
