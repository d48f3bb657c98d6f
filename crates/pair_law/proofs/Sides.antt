-- An exclusive group's mask on one side of a domain, beside the masks of others there.
use Rattle.std.proofs.Common.{◌≡◌, ℕ, ◌<◌, false, ◌==◌, Some, inl, inr, sym, subst, ap₂, ◌∙◌}
use Rattle.std.specs.Prelude.{IsSomeAnd, MatchBool}
use Rattle.std.proofs.lemmas.Bool.{cases_Bool, eqb-true, eqb-false}
use Rattle.cbm.specs.Masks.{overlaps}
use Rattle.pair_law.proofs.laws.Sides.{is_beside-own}
use Rattle.pair_law.proofs.laws.Owners.{IsGroup-owner, IsRecord-found, IsRecord-group, IsValid-record, mask_of_group-record, overlaps-exclusive}
use Rattle.pair_law.specs.Registers.{mask_of_group}
use Rattle.pair_law.specs.Sound.{IsSound}
use Rattle.pair_law.specs.State.{PairGroup, PairState, group_of, mask_in, owner_of}
use Rattle.pair_text.specs.Values.{Machines, side_machine}
use Rattle.pair_text.specs.declared.side.Side.{Side}
use Rattle.pair_law.proofs.Alone.{IsSomeAnd-parts, mask_of_number}
use Rattle.rc_base.specs.declared.names.Gid.{Gid}
use Rattle.rc_base.specs.declared.names.Mode.TheVariants.{Exclusive}
use Rattle.tree_law.specs.Masks.{IsValid}

-- the group is exclusive, with this mask on a side of a domain
abbrev pub HasSide : Side → ℕ → Gid → ℕ → PairState → Type 0
HasSide side domain group mask s = IsSomeAnd (group_of s group) (λ (g : PairGroup). (g.mode ≡ Exclusive) × (mask_in side domain g ≡ mask))

module _ (m : Machines) (s : PairState) (sound : IsSound m s) (side : Side) (domain : ℕ) (lt : domain < (side_machine m side).domains) (group : Gid) (mask : ℕ) (has : HasSide side domain group mask s) where
  own : (g : PairGroup) × (group_of s group ≡ Some g) × ((g.mode ≡ Exclusive) × (mask_in side domain g ≡ mask))
  own = IsSomeAnd-parts (λ (g : PairGroup). (g.mode ≡ Exclusive) × (mask_in side domain g ≡ mask)) (group_of s group) has

  pub IsValid-side : IsValid (side_machine m side) mask
  IsValid-side = let o = own in subst (IsValid (side_machine m side)) o.2.1 (IsValid-record m s sound group o.0 (IsRecord-found s group o.0 o.1) side domain lt)

  -- a task's group is this one and has this mask, or is another and has a mask that does not meet it
  pub mask_of_group-side : (task : ℕ) → MatchBool ((owner_of s task).0 == group.0) (mask_of_group s side domain (owner_of s task) ≡ mask) (overlaps (mask_of_group s side domain (owner_of s task)) mask ≡ false)
  mask_of_group-side task =
      let o = own in
      let user : Gid = owner_of s task in
      let x = IsRecord-group s user (IsGroup-owner m s sound task) in
      elim (cases_Bool (user.0 == group.0)) [
        | inl e ↦ rw e (mask_of_number s side domain user group (eqb-true user.0 group.0 e) ∙ (mask_of_group-record s group o.0 side domain o.1 ∙ o.2.1))
        | inr e ↦ rw e (ap₂ overlaps (mask_of_group-record s user x.0 side domain x.1.found) (sym o.2.1)
            ∙ overlaps-exclusive m s sound group user o.0 x.0 (IsRecord-found s group o.0 o.1) x.1 o.2.0 (eqb-false user.0 group.0 e) side side domain (is_beside-own m.l2 side) lt)
      ]
