-- A mask that a group in some mode may have beside the others, and the tests that give it.
use Rattle.std.proofs.Common.{◌≡◌, ℕ, ◌<◌, Bool, true, false, not, ◌&&◌, ◌||◌, length, find, get_or, Some, Ok, ◌⊎◌, inl, inr, refl, ap}
use Rattle.std.proofs.lemmas.Bool.{or_parts}
use Rattle.cbm.specs.Masks.{overlaps}
use Rattle.group_tree.specs.Records.{is_mode}
use Rattle.lists.proofs.Keyed.{AllPairs-beside}
use Rattle.lists.proofs.Tests.{IsFound, IsFound-all, find-found}
use Rattle.mode_rules.specs.Overlaps.{is_apart, keeps_apart, overlaps_counted, write_overlap}
use Rattle.mode_rules.specs.declared.domain_use.DomainUse.{DomainUse}
use Rattle.mode_rules.specs.declared.overlap.Overlap.TheVariants as overlap
use Rattle.pair_law.proofs.Keeping.{KeepApart-turned, gid_number}
use Rattle.pair_law.proofs.Unions.{AreApart-each, is_mode-counted, is_mode-exclusive, is_other_in-mode}
use Rattle.pair_law.specs.Others.{Place, used_in}
use Rattle.pair_law.specs.Sound.{HasValid, IsSound, KeepApart, OffShareable, is_beside}
use Rattle.pair_law.specs.State.{PairGroup, PairState, has_gid, mask_in}
use Rattle.pair_text.specs.Values.{Machines, side_machine}
use Rattle.pair_text.specs.declared.side.Side.{Side}
use Rattle.rc_base.specs.declared.names.Mode.{Mode}
use Rattle.rc_base.specs.declared.names.Mode.TheVariants.{Shareable, Exclusive}
use Rattle.tree_law.proofs.laws.Refusals.{cond-Ok}
use Rattle.tree_law.specs.Masks.{AreApart, IsValid}

module _ (m : Machines) (s : PairState) (g : PairGroup) (sound : IsSound m s) (found : find (has_gid g.gid) s.groups ≡ Some g) where
  -- a mask on a side of a domain that the group may have in this mode beside the others
  pub record FitsBeside (mode : Mode) (place : Place) (mask : ℕ) : Type 0 where
    pub valid : IsValid (side_machine m place.side) mask
    pub apart : (other : Side) → is_beside m.l2 place.side other ≡ true → (k : ℕ) (d : PairGroup) → k < length s.groups → has_gid g.gid (get_or s.groups k d) ≡ false → (mode ≡ Exclusive) ⊎ ((get_or s.groups k d).mode ≡ Exclusive) → AreApart mask (mask_in other place.domain (get_or s.groups k d))
    pub off : mode ≡ Exclusive → AreApart mask (side_machine m place.side).shareable

  IsFound-gid : IsFound (has_gid g.gid) s.groups g
  IsFound-gid = find-found (has_gid g.gid) s.groups g found

  -- its mask as it is fits its mode
  pub FitsBeside-old : (side : Side) (domain : ℕ) → domain < (side_machine m side).domains → FitsBeside g.mode (record { side = side; domain = domain }) (mask_in side domain g)
  FitsBeside-old side domain lt = record {
    valid = IsFound-all (HasValid m) (has_gid g.gid) s.groups g IsFound-gid sound.masks.valid side domain lt;
    apart = λ other beside k d within apart either. AllPairs-beside gid_number s.groups g g sound.named.gids found (KeepApart m) (KeepApart-turned m) sound.masks.apart k d within apart side other domain beside lt either;
    off = λ exclusive. IsFound-all (OffShareable m) (has_gid g.gid) s.groups g IsFound-gid sound.masks.off_shareable side domain lt exclusive;
  }

  -- a mask that is apart from the others' exclusive masks, and in an exclusive group from all others
  FitsBeside-when : (mode : Mode) (place : Place) (mask : ℕ) → IsValid (side_machine m place.side) mask → overlaps mask (used_in m s (Some g.gid) place).exclusive ≡ false
      → (mode ≡ Exclusive → (overlaps mask (used_in m s (Some g.gid) place).shared ≡ false) × (overlaps mask (side_machine m place.side).shareable ≡ false)) → FitsBeside mode place mask
  FitsBeside-when mode place mask valid exclusive more = record {
    valid = valid;
    apart = λ other beside k d within its either. at other beside k d within its (is_mode-counted (get_or s.groups k d).mode (sound.named.modes k d within)) either;
    off = λ is. (more is).1;
  }
    where
      by_exclusive : (other : Side) → is_beside m.l2 place.side other ≡ true → (k : ℕ) (d : PairGroup) → k < length s.groups → has_gid g.gid (get_or s.groups k d) ≡ false → is_mode Exclusive (get_or s.groups k d).mode ≡ true
          → AreApart mask (mask_in other place.domain (get_or s.groups k d))
      by_exclusive other beside k d within its is = AreApart-each m s (Some g.gid) Exclusive place mask exclusive k d within (is_other_in-mode g.gid Exclusive (get_or s.groups k d) its is) other beside

      at : (other : Side) → is_beside m.l2 place.side other ≡ true → (k : ℕ) (d : PairGroup) → k < length s.groups → has_gid g.gid (get_or s.groups k d) ≡ false
          → (is_mode Shareable (get_or s.groups k d).mode ≡ true) ⊎ (is_mode Exclusive (get_or s.groups k d).mode ≡ true) → (mode ≡ Exclusive) ⊎ ((get_or s.groups k d).mode ≡ Exclusive) → AreApart mask (mask_in other place.domain (get_or s.groups k d))
      at other beside k d within its (inr is) either = by_exclusive other beside k d within its is
      at other beside k d within its (inl is) (inl e) = AreApart-each m s (Some g.gid) Shareable place mask (more e).0 k d within (is_other_in-mode g.gid Shareable (get_or s.groups k d) its is) other beside
      at other beside k d within its (inl is) (inr e) = by_exclusive other beside k d within its (is_mode-exclusive (get_or s.groups k d).mode e)

  -- a mask against which nothing stands
  pub FitsBeside-written : (mode : Mode) (place : Place) (mask : ℕ) (u : Unit {0}) → IsValid (side_machine m place.side) mask → write_overlap mode mask (used_in m s (Some g.gid) place) ≡ Ok u → FitsBeside mode place mask
  unfolding write_overlap
  FitsBeside-written mode place mask u valid is =
      let used : DomainUse = used_in m s (Some g.gid) place in
      let one = cond-Ok (overlaps mask used.exclusive) overlap.Exclusive _ u is in
      let two = cond-Ok (overlaps mask used.region) overlap.Region _ u one.1 in
      let three = cond-Ok (keeps_apart mode && overlaps_counted mask used) overlap.Other _ u two.1 in
      let four = cond-Ok (keeps_apart mode && overlaps mask used.hardware) overlap.Hardware _ u three.1 in
      FitsBeside-when mode place mask valid one.0 (λ e. more (keeps_apart mode) (ap keeps_apart e) (overlaps mask used.shared) (overlaps mask used.exclusive) (overlaps mask used.hardware) three.0 four.0)
    where
      more : (b : Bool) → b ≡ true → (x y z : Bool) → (b && (x || y)) ≡ false → (b && z) ≡ false → (x ≡ false) × (z ≡ false)
      more true e x y z first second = ((or_parts x y first).0, second)
      more false e x y z first second = absurd (let f : false ≡ true = e in cc)

  -- a mask of an exclusive group fits a shareable one
  pub FitsBeside-shared : (place : Place) (mask : ℕ) → FitsBeside g.mode place mask → FitsBeside Shareable place mask
  FitsBeside-shared place mask old = record {
    valid = old.valid;
    apart = λ other beside k d within its either. old.apart other beside k d within its (theirs k d either);
    off = λ e. absurd (let f : Shareable ≡ Exclusive = e in cc);
  }
    where
      theirs : (k : ℕ) (d : PairGroup) → (Shareable ≡ Exclusive) ⊎ ((get_or s.groups k d).mode ≡ Exclusive) → (g.mode ≡ Exclusive) ⊎ ((get_or s.groups k d).mode ≡ Exclusive)
      theirs k d (inl e) = absurd (let f : Shareable ≡ Exclusive = e in cc)
      theirs k d (inr e) = inr e

  -- a mask that is apart from all others fits an exclusive group
  pub FitsBeside-exclusive : (place : Place) (mask : ℕ) → FitsBeside g.mode place mask → is_apart mask (used_in m s (Some g.gid) place) ≡ true → FitsBeside Exclusive place mask
  unfolding is_apart
  FitsBeside-exclusive place mask old apart =
      let used : DomainUse = used_in m s (Some g.gid) place in
      let all = parts (overlaps mask used.shared) (overlaps mask used.exclusive) (overlaps mask used.hardware) apart in
      FitsBeside-when Exclusive place mask old.valid all.1 (λ e. (all.0, all.2))
    where
      parts : (x y z : Bool) → (not (x || y) && not z) ≡ true → (x ≡ false) × (y ≡ false) × (z ≡ false)
      parts false false false e = (refl, refl, refl)
      parts false false true e = absurd (let f : false ≡ true = e in cc)
      parts false true z e = absurd (let f : false ≡ true = e in cc)
      parts true y z e = absurd (let f : false ≡ true = e in cc)
