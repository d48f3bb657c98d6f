-- A new group's mask on a side of a domain that has space: it is valid, and apart from the exclusive masks.
use Rattle.std.proofs.Common.{◌≡◌, ℕ, ◌<◌, Bool, true, false, not, ◌&&◌, ◌||◌, length, map, filter, get_or, List, Some, None, inl, inr, refl, sym, subst, ap, ◌∙◌, arith}
use Rattle.std.specs.List.{list_any}
use Rattle.std.proofs.lemmas.Bool.{cases_order, false_from_ne_true}
use Rattle.std.proofs.lemmas.List.{get_or_default}
use Rattle.std.proofs.lemmas.List.Elements.{All-map}
use Rattle.std.proofs.lemmas.List.Folds.{list_any_none}
use Rattle.cbm.proofs.laws.Overlaps.{has_way-apart, overlaps-apart}
use Rattle.cbm.specs.Masks.{has_way}
use Rattle.group_tree.specs.Records.{is_mode}
use Rattle.lists.proofs.Options.{option_map-some}
use Rattle.lists.proofs.Tests.{All-from_mapped, All-kept}
use Rattle.machine.specs.declared.parameters.Parameters.{Parameters}
use Rattle.mode_rules.specs.StartingWays.{initial_ways, may_start_with}
use Rattle.mode_rules.specs.declared.domain_use.DomainUse.{DomainUse}
use Rattle.pair_law.proofs.Keeping.{KeepApart-turned}
use Rattle.pair_law.proofs.laws.Machines.{side_machine-range}
use Rattle.pair_law.proofs.laws.Sides.{is_beside-across, list_any-flat_map, masks_of-each, masks_of-none, side_machine-beside}
use Rattle.pair_law.proofs.Unions.{is_mode-exclusive}
use Rattle.pair_law.specs.Others.{Place, initial_mask, is_other_in, masks_of, masks_of_others, sides_beside, used_in}
use Rattle.pair_law.specs.Sound.{IsSound, is_beside}
use Rattle.pair_law.specs.State.{PairGroup, PairState, mask_in}
use Rattle.pair_text.specs.Values.{AreMachines, Machines, side_machine}
use Rattle.pair_text.specs.declared.side.Side.{Side}
use Rattle.rc_base.specs.declared.names.Mode.{Mode}
use Rattle.rc_base.specs.declared.names.Mode.TheVariants.{Exclusive, Shareable}
use Rattle.tree_law.proofs.laws.StartMasks.{IsStartMask, IsStartMask-mask_of}
use Rattle.tree_law.proofs.laws.Unions.{IsUnion-union_of}
use Rattle.tree_law.proofs.laws.ValidMasks.{IsValid-checked}
use Rattle.tree_law.specs.Masks.{AreApart, IsValid}
use Rattle.tree_law.specs.Space.{geometry_of, mask_of, union_of}

module _ (m : Machines) (s : PairState) (sound : IsSound m s) (range : AreMachines m) (place : Place) (lt : place.domain < (side_machine m place.side).domains) (mask : ℕ) (is : initial_mask m s place ≡ Some mask) where
  -- what the groups hold there
  abbrev used : DomainUse
  used = used_in m s None place

  -- the new mask is one that a group may start with
  IsStartMask-new : IsStartMask (geometry_of (side_machine m place.side)) used mask
  IsStartMask-new = (let w = option_map-some mask_of (initial_ways (geometry_of (side_machine m place.side)) used) mask is in
      subst (IsStartMask (geometry_of (side_machine m place.side)) used) w.2 (IsStartMask-mask_of (geometry_of (side_machine m place.side)) used w.0 (side_machine-range m range place.side).way_limit w.1))

  -- it is valid
  pub IsValid-new : IsValid (side_machine m place.side) mask
  IsValid-new = IsValid-checked (side_machine m place.side) mask (let small = IsStartMask-new.small in omega arith) IsStartMask-new.valid

  -- the sides beside, of the groups in a mode
  abbrev masks_at : PairGroup → List ℕ
  masks_at x = masks_of (sides_beside m.l2 place.side) place.domain x

  -- a way that is not among the masks of a mode
  has_way-union_of : (mode : Mode) (way : ℕ) → ((k : ℕ) (d : PairGroup) → k < length s.groups → is_mode mode (get_or s.groups k d).mode ≡ true → (other : Side) → is_beside m.l2 place.side other ≡ true → has_way (mask_in other place.domain (get_or s.groups k d)) way ≡ false)
      → has_way (union_of (masks_of_others m s None mode place)) way ≡ false
  has_way-union_of mode way none =
      let q : ℕ → Bool = λ x. has_way x way in
      let passing : List PairGroup = filter (is_other_in None mode) s.groups in
      IsUnion-union_of (masks_of_others m s None mode place) way
      ∙ (list_any-flat_map q masks_at passing
      ∙ list_any_none (list_any q) (map masks_at passing)
      (All-map (λ (l : List ℕ). list_any q l ≡ false) masks_at passing
      (All-kept (λ (x : PairGroup). list_any q (masks_at x) ≡ false) (is_other_in None mode) s.groups
      (λ k d within in_mode. masks_of-none q m.l2 place.side place.domain (get_or s.groups k d) (none k d within in_mode)))))

  -- where the union of the masks of a mode has not a way, none of them has it
  has_way-mask_in : (mode : Mode) (way : ℕ) → has_way (union_of (masks_of_others m s None mode place)) way ≡ false → (k : ℕ) (d : PairGroup) → k < length s.groups → is_mode mode (get_or s.groups k d).mode ≡ true
      → (other : Side) → is_beside m.l2 place.side other ≡ true → has_way (mask_in other place.domain (get_or s.groups k d)) way ≡ false
  has_way-mask_in mode way none k d within in_mode other beside =
      let q : ℕ → Bool = λ x. has_way x way in
      let all : list_any (list_any q) (map masks_at (filter (is_other_in None mode) s.groups)) ≡ false =
      sym (list_any-flat_map q masks_at (filter (is_other_in None mode) s.groups)) ∙ (sym (IsUnion-union_of (masks_of_others m s None mode place) way) ∙ none) in
      masks_of-each q m.l2 place.side other place.domain (get_or s.groups k d) (All-from_mapped (list_any q) masks_at (is_other_in None mode) s.groups all k d within in_mode) beside

  -- a way that a new group may start with, that is no shareable bit and no shareable group's, is no exclusive group's
  has_way-may_start_with : (way : ℕ) → may_start_with used way ≡ true → has_way used.hardware way ≡ false → has_way used.shared way ≡ false → has_way used.exclusive way ≡ false
  has_way-may_start_with way may hw sh = at (has_way used.hardware way) (has_way used.shared way) (has_way used.exclusive way) (has_way used.region way) hw sh may
    where
      at : (h s e r : Bool) → h ≡ false → s ≡ false → (h || s || (not s && not e && not r && not h)) ≡ true → e ≡ false
      at true s e r hw sh may = absurd (let f : true ≡ false = hw in cc)
      at false true e r hw sh may = absurd (let f : true ≡ false = sh in cc)
      at false false true r hw sh may = absurd (let f : false ≡ true = may in cc)
      at false false false r hw sh may = refl

  not_both : (mode : Mode) → is_mode Shareable mode ≡ true → mode ≡ Exclusive → ⊥
  not_both mode shared e = let f : false ≡ true = sym (ap (is_mode Shareable) e) ∙ shared in cc

  -- an exclusive group's mask on a side that parts the same cache has no way of the new mask
  pub AreApart-new : (k : ℕ) (d : PairGroup) → k < length s.groups → (get_or s.groups k d).mode ≡ Exclusive → (other : Side) → is_beside m.l2 place.side other ≡ true → AreApart (mask_in other place.domain (get_or s.groups k d)) mask
  AreApart-new k d within exclusive other beside = overlaps-apart (mask_in other place.domain (get_or s.groups k d)) mask (λ way small has. false_from_ne_true (has_way mask way) (λ new.
      let may = IsStartMask-new.within way new in
      let hw : has_way used.hardware way ≡ false = subst (λ (p : Parameters). has_way p.shareable way ≡ false) (sym same) (has_way-apart (mask_in other place.domain (get_or s.groups k d)) (side_machine m other).shareable way (sound.masks.off_shareable k d within other place.domain there exclusive) small has) in
      let sh : has_way used.shared way ≡ false = has_way-union_of Shareable way (λ j e within' shared third beside'. has_way-apart (mask_in other place.domain (get_or s.groups k d)) (mask_in third place.domain (get_or s.groups j e)) way (apart j e within' shared third beside') small has) in
      let ex = has_way-mask_in Exclusive way (has_way-may_start_with way may hw sh) k d within (is_mode-exclusive (get_or s.groups k d).mode exclusive) other beside in
      let f : true ≡ false = sym has ∙ ex in cc))
    where
      same : side_machine m place.side ≡ side_machine m other
      same = side_machine-beside m place.side other beside

      there : place.domain < (side_machine m other).domains
      there = subst (λ (p : Parameters). place.domain < p.domains) same lt

      apart : (j : ℕ) (e : PairGroup) → j < length s.groups → is_mode Shareable (get_or s.groups j e).mode ≡ true → (third : Side) → is_beside m.l2 place.side third ≡ true → AreApart (mask_in other place.domain (get_or s.groups k d)) (mask_in third place.domain (get_or s.groups j e))
      apart j e within' shared third beside' =
          (let across : is_beside m.l2 other third ≡ true = is_beside-across m.l2 place.side other third beside beside' in
          subst (λ (y : PairGroup). AreApart (mask_in other place.domain (get_or s.groups k d)) (mask_in third place.domain y)) (get_or_default s.groups j d e within') (elim (cases_order k j) [
            | inl one ↦ absurd (not_both (get_or s.groups j e).mode shared (ap (λ (x : PairGroup). x.mode) (sym (get_or_default s.groups j d e within')) ∙ (ap (λ (n : ℕ). (get_or s.groups n d).mode) (sym one) ∙ exclusive)))
            | inr (inl below) ↦ sound.masks.apart k j d below within' other third place.domain across there (inl exclusive)
            | inr (inr above) ↦ KeepApart-turned m (get_or s.groups j d) (get_or s.groups k d) (sound.masks.apart j k d above within) other third place.domain across there (inl exclusive)
          ]))
