-- In a sound state without an L2, the ways of an exclusive group's mask on one side are in no other mask, where its own other mask
-- does not meet it.
use Rattle.std.proofs.Common.{◌≡◌, ℕ, ◌<◌, true, false, ◌==◌, find, Option, None, Some, unwrap_or, ◌⊎◌, inl, inr, refl, sym, subst, ap, ap₂, ◌∙◌, arith}
use Rattle.std.specs.Prelude.{IsSomeAnd, MatchBool}
use Rattle.std.specs.Option.{option_map_or}
use Rattle.std.proofs.lemmas.Bool.{cases_Bool, cases_eq, eqb-true, eqb-false}
use Rattle.cbm.proofs.laws.Overlaps.{overlaps-comm}
use Rattle.cbm.specs.Masks.{overlaps}
use Rattle.machine.specs.declared.parameters.Parameters.{Parameters}
use Rattle.pair_law.proofs.laws.Owners.{IsGroup-owner, IsRecord-found, IsRecord-group, IsValid-record, mask_of_group-record, overlaps-exclusive}
use Rattle.pair_law.proofs.laws.Registers.{register-mask_of_group}
use Rattle.pair_law.specs.Registers.{mask_of_group, register_of}
use Rattle.pair_law.specs.Sound.{IsSound, is_beside}
use Rattle.pair_law.specs.State.{PairGroup, PairState, group_of, mask_in, owner_of}
use Rattle.pair_text.specs.Values.{Machines, side_machine}
use Rattle.pair_text.specs.declared.side.Side.{Side}
use Rattle.pair_text.specs.declared.side.Side.TheVariants.{First, Second}
use Rattle.pair_law.proofs.laws.CdpEntries.{IsResolved}
use Rattle.pair_law.specs.CdpRuns.{owner_on, register_mask}
use Rattle.pair_law.specs.CdpWindows.{IsAlone, other_side}
use Rattle.rc_base.specs.declared.names.Gid.{Gid}
use Rattle.rc_base.specs.declared.names.Mode.TheVariants.{Exclusive}
use Rattle.tree_law.specs.Masks.{IsValid}

-- what is there and meets a condition
pub IsSomeAnd-parts : {X : Type 0} (P : X → Type 0) (o : Option X) → IsSomeAnd o P → (x : X) × (o ≡ Some x) × P x
IsSomeAnd-parts P None h = absurd h
IsSomeAnd-parts P (Some x) h = (x, refl, h)

-- a register's number gives its class and its side
register_of-same : (a b : ℕ) (s t : Side) → register_of a s ≡ register_of b t → (a ≡ b) × (s ≡ t)
register_of-same a b First First e = (omega arith, refl)
register_of-same a b First Second e = absurd (omega arith)
register_of-same a b Second First e = absurd (omega arith)
register_of-same a b Second Second e = (omega arith, refl)

-- one side or the other
side-cases : (s t : Side) → (s ≡ t) ⊎ (s ≡ other_side t)
side-cases First First = inl refl
side-cases First Second = inr refl
side-cases Second First = inr refl
side-cases Second Second = inl refl

-- without an L2 all sides are beside each other, with the same caches
is_beside-none : (l2 : Option Parameters) (a b : Side) → l2 ≡ None → is_beside l2 a b ≡ true
is_beside-none l2 a b none = subst (λ (o : Option Parameters). is_beside o a b ≡ true) (sym none) refl

side_machine-none : (machine : Parameters) (l2 : Option Parameters) (side : Side) → l2 ≡ None → side_machine (record { machine = machine; l2 = l2 }) side ≡ machine
side_machine-none machine l2 Second none = refl
side_machine-none machine l2 First none = ap (λ (o : Option Parameters). unwrap_or o machine) none

-- the mask of the group of a number
pub mask_of_number : (s : PairState) (side : Side) (domain : ℕ) (a b : Gid) → a.0 ≡ b.0 → mask_of_group s side domain a ≡ mask_of_group s side domain b
mask_of_number s side domain a b same =
    let of : ℕ → ℕ = λ n. option_map_or (mask_in side domain) (find (λ (g : PairGroup). n == g.gid.0) s.groups) 0 in
    ap of same

module _ (m : Machines) (s : PairState) (sound : IsSound m s) (none : m.l2 ≡ None) (domain : ℕ) (lt : domain < m.machine.domains) (group : Gid) (side : Side) (mask : ℕ) (alone : IsAlone domain group side mask s) where
  -- the group's record
  own : (g : PairGroup) × (group_of s group ≡ Some g) × ((g.mode ≡ Exclusive) × (mask_in side domain g ≡ mask) × (overlaps mask (mask_in (other_side side) domain g) ≡ false))
  own = IsSomeAnd-parts (λ (g : PairGroup). (g.mode ≡ Exclusive) × (mask_in side domain g ≡ mask) × (overlaps mask (mask_in (other_side side) domain g) ≡ false)) (group_of s group) alone

  machine_is : (a : Side) → side_machine m a ≡ m.machine
  machine_is a = side_machine-none m.machine m.l2 a none

  -- its mask is valid
  pub IsValid-alone : IsValid m.machine mask
  IsValid-alone =
      let o = own in
      subst (λ (p : Parameters). IsValid p mask) (machine_is side)
      (subst (IsValid (side_machine m side)) o.2.1 (IsValid-record m s sound group o.0 (IsRecord-found s group o.0 o.1) side domain (subst (λ (p : Parameters). domain < p.domains) (sym (machine_is side)) lt)))

  -- the mask in the register of a task's group is that group's
  register_mask-owner : (its : Side) (task : ℕ) → register_mask s its domain (owner_of s task) ≡ mask_of_group s its domain (owner_of s task)
  register_mask-owner its task = ap (λ (o : Option ℕ). unwrap_or o 0) (register-mask_of_group m s (owner_of s task) domain its sound (IsGroup-owner m s sound task))

  -- each access has this owner and this mask, or another owner and a mask that does not meet it
  pub IsResolved-alone : (owner : Gid) (its_mask : ℕ) → IsResolved s domain owner its_mask → MatchBool (owner.0 == (owner_on group side).0) (its_mask ≡ mask) (overlaps its_mask mask ≡ false)
  IsResolved-alone owner its_mask given =
      let o = own in
      let user : Gid = owner_of s given.task in
      let x = IsRecord-group s user (IsGroup-owner m s sound given.task) in
      let of_user : its_mask ≡ mask_of_group s given.side domain user = given.mask_is ∙ register_mask-owner given.side given.task in
      let numbers : owner.0 ≡ register_of user.0 given.side = ap (λ (i : Gid). i.0) given.owner_is in
      let of_group : (t : Side) → mask_of_group s t domain group ≡ mask_in t domain o.0 = λ t. mask_of_group-record s group o.0 t domain o.1 in
      elim (cases_Bool (owner.0 == (owner_on group side).0)) [
        | inl e ↦
            let same = register_of-same user.0 group.0 given.side side (sym numbers ∙ eqb-true owner.0 (owner_on group side).0 e) in
            rw e (of_user ∙ (mask_of_number s given.side domain user group same.0 ∙ (ap (λ (t : Side). mask_of_group s t domain group) same.1 ∙ (of_group side ∙ o.2.1))))
        | inr e ↦ rw e (elim (cases_eq user.0 group.0) [
          | inl one ↦ elim (side-cases given.side side) [
            | inl same ↦ absurd (eqb-false owner.0 (owner_on group side).0 e (numbers ∙ (ap (λ (n : ℕ). register_of n given.side) one ∙ ap (register_of group.0) same)))
            | inr other ↦
                let is : its_mask ≡ mask_in (other_side side) domain o.0 = of_user ∙ (mask_of_number s given.side domain user group one ∙ (ap (λ (t : Side). mask_of_group s t domain group) other ∙ of_group (other_side side))) in
                ap (λ (n : ℕ). overlaps n mask) is ∙ (overlaps-comm (mask_in (other_side side) domain o.0) mask ∙ o.2.2)
          ]
          | inr two ↦
              let is : its_mask ≡ mask_in given.side domain x.0 = of_user ∙ mask_of_group-record s user x.0 given.side domain x.1.found in
              ap₂ overlaps is (sym o.2.1)
              ∙ overlaps-exclusive m s sound group user o.0 x.0 (IsRecord-found s group o.0 o.1) x.1 o.2.0 two given.side side domain (is_beside-none m.l2 given.side side none) (subst (λ (p : Parameters). domain < p.domains) (sym (machine_is given.side)) lt)
        ])
      ]
