-- Masks that keep apart from the union of the others keep apart from each.
use Rattle.std.proofs.Common.{◌≡◌, ℕ, Bool, true, false, not, ◌&&◌, ◌||◌, cond, List, [], ◌∷◌, Option, None, Some, ◌⊎◌, inl, inr, refl, sym, subst, ap, ◌∙◌}
use Rattle.std.specs.List.{All, slice_get}
use Rattle.std.specs.Option.{option_map_or}
use Rattle.std.proofs.lemmas.Nat.Bits.{bit_at-zero}
use Rattle.std.proofs.lemmas.Option.{get_or_from_slice_get}
use Rattle.cbm.proofs.laws.Overlaps.{overlaps-comm, overlaps-union}
use Rattle.cbm.proofs.laws.Ways.{has_way-bit_or, has_way-zero}
use Rattle.cbm.specs.Masks.{IsUnion, has_way, overlaps}
use Rattle.group_tree.specs.Others.{masks_of_others}
use Rattle.group_tree.specs.Records.{has_gid, has_mode, is_control, is_mode, is_other_in, mask_in}
use Rattle.group_tree.specs.declared.group.Group.{Group}
use Rattle.group_tree.specs.declared.group_kind.GroupKind.{GroupKind}
use Rattle.group_tree.specs.declared.group_kind.GroupKind.TheVariants.{Control, Monitor}
use Rattle.lists.proofs.Tests.{All-from_mapped}
use Rattle.rc_base.specs.declared.names.Gid.{Gid}
use Rattle.rc_base.specs.declared.names.Mode.{Mode}
use Rattle.rc_base.specs.declared.names.Mode.TheVariants.{Shareable, Exclusive, LockSetup, Locked}
use Rattle.tree_law.specs.Counted.{is_counted, is_counted_mode}
use Rattle.tree_law.specs.Masks.{AreApart}
use Rattle.tree_law.specs.Space.{region_mask, union_of}
use Rattle.pseudo_lock.specs.declared.region.Region.{Region}

-- the ways of a union
pub IsUnion-union_of : (masks : List ℕ) → IsUnion (union_of masks) masks
IsUnion-union_of [] way = has_way-zero 0 way (bit_at-zero way)
IsUnion-union_of (mask ∷ masks) way = has_way-bit_or mask (union_of masks) way ∙ ap (λ (b : Bool). has_way mask way || b) (IsUnion-union_of masks way)

module _ (mask domain : ℕ) (groups : List Group) (gid : Option Gid) where
  -- apart from the union of the others in a mode, and from each
  pub AreApart-each : (mode : Mode) → overlaps mask (union_of (masks_of_others gid mode domain groups)) ≡ false
      → All (λ (x : Group). is_other_in gid mode x ≡ true → AreApart mask (mask_in domain x)) groups
  AreApart-each mode none = All-from_mapped (overlaps mask) (mask_in domain) (is_other_in gid mode) groups
      (sym (overlaps-union mask (union_of (masks_of_others gid mode domain groups)) (masks_of_others gid mode domain groups) (IsUnion-union_of (masks_of_others gid mode domain groups))) ∙ none)

-- a counted group is a control group in one of two modes
pub has_mode-counted : (x : Group) → is_counted x ≡ true → (has_mode Shareable x ≡ true) ⊎ (has_mode Exclusive x ≡ true)
has_mode-counted x counted = at x.kind x.mode counted
  where
    at : (kind : GroupKind) (mode : Mode) → cond (is_control kind) (is_counted_mode mode) false ≡ true → ((is_control kind && is_mode Shareable mode) ≡ true) ⊎ ((is_control kind && is_mode Exclusive mode) ≡ true)
    at Control Shareable e = inl refl
    at Control Exclusive e = inr refl
    at Control LockSetup e = absurd (let f : false ≡ true = e in cc)
    at Control Locked e = absurd (let f : false ≡ true = e in cc)
    at (Monitor parent) mode e = absurd (let f : false ≡ true = e in cc)

-- and an exclusive one is in that mode
pub has_mode-exclusive : (x : Group) → is_counted x ≡ true → x.mode ≡ Exclusive → has_mode Exclusive x ≡ true
has_mode-exclusive x counted exclusive = at x.kind x.mode exclusive counted
  where
    at : (kind : GroupKind) (mode : Mode) → mode ≡ Exclusive → cond (is_control kind) (is_counted_mode mode) false ≡ true → (is_control kind && is_mode Exclusive mode) ≡ true
    at Control mode e c = subst (λ (y : Mode). is_mode Exclusive y ≡ true) (sym e) refl
    at (Monitor parent) mode e c = absurd (let f : false ≡ true = c in cc)

-- another group, in a mode
pub is_other_in-mode : (gid : Gid) (mode : Mode) (x : Group) → has_gid gid x ≡ false → has_mode mode x ≡ true → is_other_in (Some gid) mode x ≡ true
is_other_in-mode gid mode x other is = at (has_gid gid x) (has_mode mode x) other is
  where
    at : (a b : Bool) → a ≡ false → b ≡ true → (not a && b) ≡ true
    at true b e f = absurd (let g : true ≡ false = e in cc)
    at false b e f = f

-- apart from a domain's region
pub AreApart-region : (mask domain : ℕ) (regions : List (Option Region)) (r : Region) → overlaps mask (region_mask regions domain) ≡ false → slice_get regions domain ≡ Some (Some r) → AreApart r.mask mask
AreApart-region mask domain regions r none there =
    overlaps-comm r.mask mask ∙ ap (λ (o : Option Region). overlaps mask (option_map_or (λ (q : Region). q.mask) o 0)) (sym (get_or_from_slice_get regions domain (Some r) None there)) ∙ none
