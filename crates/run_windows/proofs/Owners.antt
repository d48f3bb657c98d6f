-- In a sound tree the ways of an exclusive group, and those of a region, are in no other counted group's mask.
use Rattle.std.proofs.Common.{◌≡◌, ◌≢◌, ℕ, ◌<◌, true, false, ◌==◌, ◌&&◌, length, find, get_or, Option, None, Some, inl, inr, refl, sym, subst, ap, ap₂, ◌∙◌}
use Rattle.std.specs.Prelude.{IsSomeAnd, MatchBool, slice_get}
use Rattle.std.specs.Option.{option_map_or}
use Rattle.std.proofs.lemmas.Bool.{cases_Bool, cases_order, eqb-true, eqb-false, false≢true}
use Rattle.cbm.specs.Masks.{overlaps}
use Rattle.cbm.proofs.laws.Overlaps.{overlaps-comm}
use Rattle.group_tree.specs.Records.{has_gid, has_mode, is_control, is_mode, mask_in}
use Rattle.group_tree.specs.declared.group.Group.{Group}
use Rattle.group_tree.specs.declared.group_kind.GroupKind.{GroupKind}
use Rattle.group_tree.specs.declared.group_kind.GroupKind.TheVariants.{Control, Monitor}
use Rattle.lists.proofs.Tests.{IsFound, IsFound-all, find-found}
use Rattle.machine.specs.declared.parameters.Parameters.{Parameters}
use Rattle.pseudo_lock.specs.declared.region.Region.{Region}
use Rattle.rc_base.specs.declared.names.Gid.{Gid}
use Rattle.rc_base.specs.declared.names.Mode.{Mode}
use Rattle.rc_base.specs.declared.names.Mode.TheVariants.{Shareable, Exclusive, LockSetup, Locked}
use Rattle.tree_law.proofs.laws.Access.{group_of-one}
use Rattle.tree_law.specs.Counted.{is_counted}
use Rattle.tree_law.specs.Existing.{group_of}
use Rattle.tree_law.specs.Masks.{HasValid, IsValid, KeepApart}
use Rattle.tree_law.specs.Regions.{OffCounted}
use Rattle.tree_law.specs.Resolving.{mask_of_group}
use Rattle.tree_law.specs.Sound.{IsCounted, IsSound}
use Rattle.tree_law.specs.State.{State}
use Rattle.run_windows.specs.Windows.{IsExclusive}

-- what is there and meets a condition
pub IsSomeAnd-parts : {X : Type 0} (P : X → Type 0) (o : Option X) → IsSomeAnd o P → (x : X) × (o ≡ Some x) × P x
IsSomeAnd-parts P None h = absurd h
IsSomeAnd-parts P (Some x) h = (x, refl, h)

-- an exclusive control group is counted
is_counted-exclusive : (g : Group) → has_mode Exclusive g ≡ true → (is_counted g ≡ true) × (g.mode ≡ Exclusive) × (is_control g.kind ≡ true)
is_counted-exclusive g has = at g.kind g.mode refl refl has
  where
    at : (kind : GroupKind) (mode : Mode) → g.kind ≡ kind → g.mode ≡ mode → (is_control kind && is_mode Exclusive mode) ≡ true → (is_counted g ≡ true) × (g.mode ≡ Exclusive) × (is_control g.kind ≡ true)
    at Control Exclusive k is h = (rw (k, is) refl, is, rw k refl)
    at Control Shareable k is h = absurd (false≢true h)
    at Control LockSetup k is h = absurd (false≢true h)
    at Control Locked k is h = absurd (false≢true h)
    at (Monitor parent) mode k is h = absurd (false≢true h)

-- an exclusive group, as a look-up finds it
pub record ExclusiveGroup (s : State) (domain : ℕ) (group : Gid) (mask : ℕ) : Type 0 where
  pub record_of : Group
  pub found : group_of s group ≡ Some record_of
  pub at : IsFound (has_gid group) s.groups record_of
  pub counted : is_counted record_of ≡ true
  pub mode_is : record_of.mode ≡ Exclusive
  pub control : is_control record_of.kind ≡ true
  pub mask_is : mask_in domain record_of ≡ mask

-- by its look-up
pub IsExclusive-found : (s : State) (domain : ℕ) (group : Gid) (mask : ℕ) → IsExclusive domain group mask s → ExclusiveGroup s domain group mask
IsExclusive-found s domain group mask exclusive =
    let x = IsSomeAnd-parts (λ (g : Group). (has_mode Exclusive g ≡ true) × (mask_in domain g ≡ mask)) (group_of s group) exclusive in
    let parts = is_counted-exclusive x.0 x.2.0 in
    record { record_of = x.0; found = x.1; at = find-found (has_gid group) s.groups x.0 x.1; counted = parts.0; mode_is = parts.1; control = parts.2; mask_is = x.2.1 }

module _ (m : Parameters) (s : State) (sound : IsSound m s) where
  -- the mask of an exclusive group is valid
  pub IsValid-exclusive : (domain : ℕ) (group : Gid) (mask : ℕ) → domain < m.domains → IsExclusive domain group mask s → IsValid m mask
  IsValid-exclusive domain group mask lt exclusive =
      let g = IsExclusive-found s domain group mask exclusive in
      subst (IsValid m) g.mask_is (IsFound-all (HasValid m domain) (has_gid group) s.groups g.record_of g.at (sound.masks.valid domain lt) g.control (λ e. let wrong : Exclusive ≡ Locked = sym g.mode_is ∙ e in cc))

  -- two groups that stand in different places keep apart where one is exclusive
  overlaps-exclusive : (domain i k : ℕ) (a b : Group) → domain < m.domains → i < length s.groups → k < length s.groups → ((d : Group) → get_or s.groups i d ≡ a) → ((d : Group) → get_or s.groups k d ≡ b)
      → is_counted a ≡ true → is_counted b ≡ true → b.mode ≡ Exclusive → i ≢ k → overlaps (mask_in domain a) (mask_in domain b) ≡ false
  overlaps-exclusive domain i k a b lt first second is_a is_b counted_a counted_b mode other = elim (cases_order i k) [
    | inl e ↦ absurd (other e)
    | inr (inl less) ↦ both i k a b a (is_a a) (is_b a) (sound.masks.apart domain lt i k a less second) counted_a counted_b (inr mode)
    | inr (inr less) ↦ overlaps-comm (mask_in domain a) (mask_in domain b) ∙ both k i b a b (is_b b) (is_a b) (sound.masks.apart domain lt k i b less first) counted_b counted_a (inl mode)
  ]
    where
      both : (p q : ℕ) (x y d : Group) → get_or s.groups p d ≡ x → get_or s.groups q d ≡ y → KeepApart domain (get_or s.groups p d) (get_or s.groups q d) → KeepApart domain x y
      both p q x y d is_x is_y apart = subst (λ g. KeepApart domain x g) is_y (subst (λ g. KeepApart domain g (get_or s.groups q d)) is_x apart)

  -- Where a group is exclusive with a mask, each counted group is that group and has this mask, or has a mask that does not meet it.
  pub mask_of_group-exclusive : (domain : ℕ) (group owner : Gid) (mask : ℕ) → domain < m.domains → IsExclusive domain group mask s → IsCounted s.groups owner
      → MatchBool (owner.0 == group.0) (mask_of_group s domain owner ≡ mask) (overlaps (mask_of_group s domain owner) mask ≡ false)
  mask_of_group-exclusive domain group owner mask lt exclusive counted =
      let x = IsExclusive-found s domain group mask exclusive in
      let c = group_of-one m s sound owner is_counted counted in
      let mine : mask_of_group s domain group ≡ mask = ap (λ (o : Option Group). option_map_or (mask_in domain) o 0) x.found ∙ x.mask_is in
      let its : mask_of_group s domain owner ≡ mask_in domain c.0 = ap (λ (o : Option Group). option_map_or (mask_in domain) o 0) c.1 in
      elim (cases_Bool (owner.0 == group.0)) [
        | inl e ↦
            let of : ℕ → ℕ = λ n. option_map_or (mask_in domain) (find (λ (g : Group). n == g.gid.0) s.groups) 0 in
            let same : mask_of_group s domain owner ≡ mask_of_group s domain group = ap of (eqb-true owner.0 group.0 e) in
            rw e (same ∙ mine)
        | inr e ↦
            let other : c.2.place ≢ x.at.place = λ one.
            let is : c.0 ≡ x.record_of = sym (c.2.at c.0) ∙ (ap (λ k. get_or s.groups k c.0) one ∙ x.at.at c.0) in
            let same : owner.0 ≡ group.0 = eqb-true owner.0 c.0.gid.0 c.2.passes ∙ (ap (λ (g : Group). g.gid.0) is ∙ sym (eqb-true group.0 x.record_of.gid.0 x.at.passes)) in
            eqb-false owner.0 group.0 e same in
            rw e (ap₂ overlaps its (sym x.mask_is) ∙ overlaps-exclusive domain c.2.place x.at.place c.0 x.record_of lt c.2.within x.at.within c.2.at x.at.at c.3 x.counted x.mode_is other)
      ]

  -- the mask of a counted group is off a region
  pub mask_of_group-region : (domain : ℕ) (r : Region) (owner : Gid) → slice_get s.regions domain ≡ Some (Some r) → IsCounted s.groups owner → overlaps (mask_of_group s domain owner) r.mask ≡ false
  mask_of_group-region domain r owner there counted =
      let c = group_of-one m s sound owner is_counted counted in
      let its : mask_of_group s domain owner ≡ mask_in domain c.0 = ap (λ (o : Option Group). option_map_or (mask_in domain) o 0) c.1 in
      ap (λ k. overlaps k r.mask) its ∙ (overlaps-comm (mask_in domain c.0) r.mask ∙ IsFound-all (OffCounted domain r.mask) (has_gid owner) s.groups c.0 c.2 (sound.regions.lawful domain r there).off_counted c.3)

  -- a region is off the mask of an exclusive group
  pub overlaps-region : (domain : ℕ) (group : Gid) (mask : ℕ) (r : Region) → slice_get s.regions domain ≡ Some (Some r) → IsExclusive domain group mask s → overlaps r.mask mask ≡ false
  overlaps-region domain group mask r there exclusive =
      let x = IsExclusive-found s domain group mask exclusive in
      ap (overlaps r.mask) (sym x.mask_is) ∙ IsFound-all (OffCounted domain r.mask) (has_gid group) s.groups x.record_of x.at (sound.regions.lawful domain r there).off_counted x.counted
