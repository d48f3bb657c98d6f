-- A new group's mask in a domain that has space: it is valid, and apart from the exclusive masks and the region.
use Rattle.std.proofs.Common.{◌≡◌, ℕ, ◌<◌, Bool, true, false, not, ◌&&◌, ◌||◌, cond, length, filter, get_or, Option, Some, None, inl, inr, refl, sym, subst, ap, ◌∙◌, arith}
use Rattle.std.specs.List.{slice_get}
use Rattle.std.specs.Option.{option_map_or}
use Rattle.std.proofs.lemmas.Bool.{cases_order, false_from_ne_true}
use Rattle.std.proofs.lemmas.List.{get_or_default}
use Rattle.std.proofs.lemmas.List.Elements.{All-map}
use Rattle.std.proofs.lemmas.List.Folds.{list_any_none}
use Rattle.std.proofs.lemmas.Option.{get_or_from_slice_get}
use Rattle.cbm.proofs.laws.Overlaps.{has_way-apart, overlaps-apart, overlaps-comm}
use Rattle.cbm.specs.Masks.{has_way}
use Rattle.group_tree.specs.Others.{masks_of_others}
use Rattle.group_tree.specs.Records.{has_mode, is_control, is_mode, is_other_in, mask_in}
use Rattle.group_tree.specs.declared.group.Group.{Group}
use Rattle.group_tree.specs.declared.group_kind.GroupKind.{GroupKind}
use Rattle.group_tree.specs.declared.group_kind.GroupKind.TheVariants.{Control, Monitor}
use Rattle.lists.proofs.Tests.{All-kept, All-from_mapped}
use Rattle.lists.proofs.Options.{option_map-some}
use Rattle.machine.specs.Ranges.{InRange}
use Rattle.machine.specs.declared.parameters.Parameters.{Parameters}
use Rattle.mode_rules.specs.StartingWays.{initial_ways, may_start_with}
use Rattle.mode_rules.specs.declared.domain_use.DomainUse.{DomainUse}
use Rattle.rc_base.specs.declared.names.Mode.{Mode}
use Rattle.rc_base.specs.declared.names.Mode.TheVariants.{Exclusive, Locked, Shareable, LockSetup}
use Rattle.tree_law.proofs.laws.Unions.{has_mode-exclusive, IsUnion-union_of}
use Rattle.tree_law.proofs.laws.ValidMasks.{IsValid-checked}
use Rattle.tree_law.specs.Counted.{is_counted, is_counted_mode}
use Rattle.tree_law.specs.Masks.{AreApart, IsValid}
use Rattle.tree_law.specs.Sound.{IsSound}
use Rattle.tree_law.specs.Space.{geometry_of, initial_mask, mask_of, region_mask, union_of, used_in}
use Rattle.tree_law.specs.State.{State}
use Rattle.pseudo_lock.specs.declared.region.Region.{Region}
use Rattle.tree_law.proofs.laws.StartMasks.{IsStartMask, IsStartMask-mask_of}

-- ---- apart from the others

module _ (m : Parameters) (s : State) (sound : IsSound m s) (range : InRange m) (domain : ℕ) (lt : domain < m.domains) (mask : ℕ) (is : initial_mask m s domain ≡ Some mask) where
  -- what the groups hold of the domain
  abbrev used : DomainUse
  used = used_in m s None domain

  -- the new mask is one that a group may start with
  IsStartMask-new : IsStartMask (geometry_of m) used mask
  IsStartMask-new = (let w = option_map-some mask_of (initial_ways (geometry_of m) used) mask is in subst (IsStartMask (geometry_of m) used) w.2 (IsStartMask-mask_of (geometry_of m) used w.0 range.way_limit w.1))

  -- it is valid
  pub IsValid-new : IsValid m mask
  IsValid-new = IsValid-checked m mask (let small = IsStartMask-new.small in omega arith) IsStartMask-new.valid

  -- a way that is not among the masks of a mode
  has_way-union_of : (mode : Mode) (way : ℕ) → ((k : ℕ) (d : Group) → k < length s.groups → has_mode mode (get_or s.groups k d) ≡ true → has_way (mask_in domain (get_or s.groups k d)) way ≡ false)
      → has_way (union_of (masks_of_others None mode domain s.groups)) way ≡ false
  has_way-union_of mode way none = IsUnion-union_of (masks_of_others None mode domain s.groups) way
      ∙ list_any_none (λ (x : ℕ). has_way x way) (masks_of_others None mode domain s.groups)
      (All-map (λ (x : ℕ). has_way x way ≡ false) (mask_in domain) (filter (is_other_in None mode) s.groups) (All-kept (λ (x : Group). has_way (mask_in domain x) way ≡ false) (is_other_in None mode) s.groups none))

  -- where the union of the masks of a mode has not a way, none of them has it
  has_way-mask_in : (mode : Mode) (way : ℕ) → has_way (union_of (masks_of_others None mode domain s.groups)) way ≡ false → (k : ℕ) (d : Group) → k < length s.groups → has_mode mode (get_or s.groups k d) ≡ true → has_way (mask_in domain (get_or s.groups k d)) way ≡ false
  has_way-mask_in mode way none k d within is = All-from_mapped (λ (x : ℕ). has_way x way) (mask_in domain) (is_other_in None mode) s.groups (sym (IsUnion-union_of (masks_of_others None mode domain s.groups) way) ∙ none) k d within is

  -- a way that a new group may start with, that is no shareable bit and no shareable group's, is not taken
  has_way-may_start_with : (way : ℕ) → may_start_with used way ≡ true → has_way used.hardware way ≡ false → has_way used.shared way ≡ false → (has_way used.exclusive way ≡ false) × (has_way used.region way ≡ false)
  has_way-may_start_with way may hw sh = at (has_way used.hardware way) (has_way used.shared way) (has_way used.exclusive way) (has_way used.region way) hw sh may
    where
      at : (h s e r : Bool) → h ≡ false → s ≡ false → (h || s || (not s && not e && not r && not h)) ≡ true → (e ≡ false) × (r ≡ false)
      at true s e r hw sh may = absurd (let f : true ≡ false = hw in cc)
      at false true e r hw sh may = absurd (let f : true ≡ false = sh in cc)
      at false false true r hw sh may = absurd (let f : false ≡ true = may in cc)
      at false false false true hw sh may = absurd (let f : false ≡ true = may in cc)
      at false false false false hw sh may = (refl, refl)

  -- a shareable group is counted
  is_counted-shareable : (x : Group) → has_mode Shareable x ≡ true → is_counted x ≡ true
  is_counted-shareable x e = at x.kind x.mode e
    where
      at : (kind : GroupKind) (mode : Mode) → (is_control kind && is_mode Shareable mode) ≡ true → cond (is_control kind) (is_counted_mode mode) false ≡ true
      at Control Shareable e = refl
      at Control Exclusive e = refl
      at Control LockSetup e = absurd (let f : false ≡ true = e in cc)
      at Control Locked e = absurd (let f : false ≡ true = e in cc)
      at (Monitor p) mode e = absurd (let f : false ≡ true = e in cc)

  -- the mask of an exclusive group has no way of the new mask
  pub AreApart-new_exclusive : (k : ℕ) (d : Group) → k < length s.groups → is_counted (get_or s.groups k d) ≡ true → (get_or s.groups k d).mode ≡ Exclusive → AreApart (mask_in domain (get_or s.groups k d)) mask
  AreApart-new_exclusive k d within counted exclusive = overlaps-apart (mask_in domain (get_or s.groups k d)) mask (λ way small has. false_from_ne_true (has_way mask way) (λ new.
      let may = IsStartMask-new.within way new in
      let hw : has_way m.shareable way ≡ false = has_way-apart (mask_in domain (get_or s.groups k d)) m.shareable way (sound.masks.off_shareable domain lt k d within counted exclusive) small has in
      let sh : has_way used.shared way ≡ false = has_way-union_of Shareable way (λ j e within' shared. has_way-apart (mask_in domain (get_or s.groups k d)) (mask_in domain (get_or s.groups j e)) way (apart j e within' shared) small has) in
      let ex = has_way-mask_in Exclusive way (has_way-may_start_with way may hw sh).0 k d within (has_mode-exclusive (get_or s.groups k d) counted exclusive) in
      let f : true ≡ false = sym has ∙ ex in cc))
    where
      not_both : (x : Group) → has_mode Shareable x ≡ true → x.mode ≡ Exclusive → ⊥
      not_both x shared e = at (is_control x.kind) (ap (λ (b : Bool). is_control x.kind && b) (sym (ap (is_mode Shareable) e)) ∙ shared)
        where
          at : (b : Bool) → (b && false) ≡ true → ⊥
          at true f = let g : false ≡ true = f in cc
          at false f = let g : false ≡ true = f in cc

      apart : (j : ℕ) (e : Group) → j < length s.groups → has_mode Shareable (get_or s.groups j e) ≡ true → AreApart (mask_in domain (get_or s.groups k d)) (mask_in domain (get_or s.groups j e))
      apart j e within' shared = subst (λ (y : Group). AreApart (mask_in domain (get_or s.groups k d)) (mask_in domain y)) (get_or_default s.groups j d e within') (elim (cases_order k j) [
        | inl same ↦ absurd (not_both (get_or s.groups j e) shared (ap (λ (x : Group). x.mode) (sym (get_or_default s.groups j d e within')) ∙ ap (λ (n : ℕ). (get_or s.groups n d).mode) (sym same) ∙ exclusive))
        | inr (inl below) ↦ sound.masks.apart domain lt k j d below within' counted counted' (inl exclusive)
        | inr (inr above) ↦ overlaps-comm (mask_in domain (get_or s.groups k d)) (mask_in domain (get_or s.groups j d)) ∙ sound.masks.apart domain lt j k d above within counted' counted (inr exclusive)
      ])
        where
          counted' : is_counted (get_or s.groups j d) ≡ true
          counted' = ap is_counted (get_or_default s.groups j d e within') ∙ is_counted-shareable (get_or s.groups j e) shared

  -- nor has the region
  pub AreApart-new_region : (r : Region) → slice_get s.regions domain ≡ Some (Some r) → AreApart r.mask mask
  AreApart-new_region r there = overlaps-apart r.mask mask (λ way small has. false_from_ne_true (has_way mask way) (λ new.
      let may = IsStartMask-new.within way new in
      let old = sound.regions.lawful domain r there in
      let hw : has_way m.shareable way ≡ false = has_way-apart r.mask m.shareable way old.off_shareable small has in
      let sh : has_way used.shared way ≡ false = has_way-union_of Shareable way (λ j e within' shared. has_way-apart r.mask (mask_in domain (get_or s.groups j e)) way (old.off_counted j e within' (is_counted-shareable (get_or s.groups j e) shared)) small has) in
      let mine : region_mask s.regions domain ≡ r.mask = ap (λ (o : Option Region). option_map_or (λ (q : Region). q.mask) o 0) (get_or_from_slice_get s.regions domain (Some r) None there) in
      let none = (has_way-may_start_with way may hw sh).1 in
      let f : true ≡ false = sym has ∙ ap (λ (n : ℕ). has_way n way) (sym mine) ∙ none in cc))
