-- Masks that keep apart from the union of the others keep apart from each.
use Rattle.std.proofs.Common.{◌≡◌, ℕ, ◌<◌, Bool, true, false, not, ◌&&◌, List, map, filter, get_or, length, Option, Some, ◌⊎◌, inl, inr, refl, sym, subst, ◌∙◌}
use Rattle.std.specs.List.{list_any}
use Rattle.cbm.proofs.laws.Overlaps.{overlaps-union}
use Rattle.cbm.specs.Masks.{overlaps}
use Rattle.group_tree.specs.Records.{is_mode}
use Rattle.lists.proofs.Tests.{All-from_mapped}
use Rattle.pair_law.proofs.laws.Sides.{list_any-flat_map, masks_of-each}
use Rattle.pair_law.specs.Others.{Place, is_other_in, masks_of, masks_of_others, sides_beside}
use Rattle.pair_law.specs.Sound.{is_beside}
use Rattle.pair_law.specs.State.{PairGroup, PairState, has_gid, mask_in}
use Rattle.pair_text.specs.Values.{Machines}
use Rattle.pair_text.specs.declared.side.Side.{Side}
use Rattle.rc_base.specs.declared.names.Gid.{Gid}
use Rattle.rc_base.specs.declared.names.Mode.{Mode}
use Rattle.rc_base.specs.declared.names.Mode.TheVariants.{Shareable, Exclusive, LockSetup, Locked}
use Rattle.tree_law.proofs.laws.Unions.{IsUnion-union_of}
use Rattle.tree_law.specs.Counted.{is_counted_mode}
use Rattle.tree_law.specs.Masks.{AreApart}
use Rattle.tree_law.specs.Space.{union_of}

module _ (m : Machines) (s : PairState) (gid : Option Gid) (mode : Mode) (place : Place) where
  -- apart from the union of the others in a mode, and from each on each side that parts the same cache
  pub AreApart-each : (mask : ℕ) → overlaps mask (union_of (masks_of_others m s gid mode place)) ≡ false → (k : ℕ) (d : PairGroup) → k < length s.groups → is_other_in gid mode (get_or s.groups k d) ≡ true
      → (other : Side) → is_beside m.l2 place.side other ≡ true → AreApart mask (mask_in other place.domain (get_or s.groups k d))
  AreApart-each mask none k d within is other beside =
      let masks = masks_of_others m s gid mode place in
      let f : PairGroup → List ℕ = masks_of (sides_beside m.l2 place.side) place.domain in
      let all : list_any (list_any (overlaps mask)) (map f (filter (is_other_in gid mode) s.groups)) ≡ false =
      sym (list_any-flat_map (overlaps mask) f (filter (is_other_in gid mode) s.groups)) ∙ (sym (overlaps-union mask (union_of masks) masks (IsUnion-union_of masks)) ∙ none) in
      masks_of-each (overlaps mask) m.l2 place.side other place.domain (get_or s.groups k d) (All-from_mapped (list_any (overlaps mask)) f (is_other_in gid mode) s.groups all k d within is) beside

-- a counted mode is one of two
pub is_mode-counted : (mode : Mode) → is_counted_mode mode ≡ true → (is_mode Shareable mode ≡ true) ⊎ (is_mode Exclusive mode ≡ true)
is_mode-counted Shareable e = inl refl
is_mode-counted Exclusive e = inr refl
is_mode-counted LockSetup e = absurd (let f : false ≡ true = e in cc)
is_mode-counted Locked e = absurd (let f : false ≡ true = e in cc)

pub is_mode-exclusive : (mode : Mode) → mode ≡ Exclusive → is_mode Exclusive mode ≡ true
is_mode-exclusive mode e = subst (λ (x : Mode). is_mode Exclusive x ≡ true) (sym e) refl

-- another group, in a mode
pub is_other_in-mode : (gid : Gid) (mode : Mode) (x : PairGroup) → has_gid gid x ≡ false → is_mode mode x.mode ≡ true → is_other_in (Some gid) mode x ≡ true
is_other_in-mode gid mode x other is = at (has_gid gid x) (is_mode mode x.mode) other is
  where
    at : (a b : Bool) → a ≡ false → b ≡ true → (not a && b) ≡ true
    at true b e f = absurd (let g : true ≡ false = e in cc)
    at false b e f = f
