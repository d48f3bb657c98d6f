-- A side of a group that is alone has a partition.
use Rattle.std.proofs.Common.{◌≡◌, ℕ, ◌-◌, true, false, [], ◌∷◌, filter, Contains, Option, Some, None, refl, sym, subst, ap, ap₂, ◌∙◌, arith}
use Rattle.std.specs.Prelude.{IsSomeAnd}
use Rattle.std.proofs.lemmas.Bool.{eq-eqb, eqb-true}
use Rattle.cbm.specs.Masks.{overlaps}
use Rattle.group_tree.specs.Records.{is_mode}
use Rattle.lists.proofs.Tests.{find-found}
use Rattle.pair_law.specs.State.{PairState, group_of, has_gid, mask_in}
use Rattle.pair_text.specs.declared.group.PairGroup.{PairGroup}
use Rattle.pair_text.specs.declared.side.Side.{Side}
use Rattle.pair_text.specs.declared.side.Side.TheVariants.{First, Second}
use Rattle.pair_law.specs.CdpWindows.{IsAlone, other_side}
use Rattle.pair_windows.proofs.laws.Listings.{Contains-filtered, Contains-flat_mapped, Contains-found, Contains-mapped}
use Rattle.pair_windows.specs.Partitions.{has_partition, partition_of, partitions_in, partitions_of}
use Rattle.pair_windows.specs.declared.partition.Partition.{Partition}
use Rattle.rc_base.specs.declared.names.Mode.TheVariants.{Exclusive}

-- one of the two sides
Contains-side : (side : Side) → Contains (First ∷ Second ∷ []) side
Contains-side First = (0, omega arith, refl)
Contains-side Second = (1, omega arith, refl)

-- a partition, by the number of its group
abbrev part_of : ℕ → Side → ℕ → Partition
part_of gid side mask = record { gid = record { 0 = gid }; side = side; mask = mask }

pub Contains-partitions : (domain : ℕ) (s : PairState) (p : Partition) → IsAlone domain p.gid p.side p.mask s → Contains (partitions_in domain s) p
Contains-partitions domain s p alone = of (group_of s p.gid) refl alone
  where
    of : (o : Option PairGroup) → group_of s p.gid ≡ o → IsSomeAnd o (λ g. (g.mode ≡ Exclusive) × (mask_in p.side domain g ≡ p.mask) × (overlaps p.mask (mask_in (other_side p.side) domain g) ≡ false))
        → Contains (partitions_in domain s) p
    of None is has = absurd has
    of (Some g) is has = (let found = find-found (has_gid p.gid) s.groups g is in
        let number : g.gid.0 ≡ p.gid.0 = sym (eqb-true p.gid.0 g.gid.0 found.passes) in
        let mode : is_mode Exclusive g.mode ≡ true = ap (is_mode Exclusive) has.0 in
        let mask : mask_in p.side domain g ≡ p.mask = has.1 in
        let own = eq-eqb (mask_in p.side domain g) (mask_in p.side domain g) refl in
        let apart : overlaps (mask_in p.side domain g) (mask_in (other_side p.side) domain g) ≡ false = ap (λ (m : ℕ). overlaps m (mask_in (other_side p.side) domain g)) mask ∙ has.2 in
        let has_it : has_partition domain g p.side ≡ true = rw (mode, own, apart) refl in
        let is_it : partition_of domain g p.side ≡ p = ap₂ (λ (n m : ℕ). part_of n p.side m) number mask in
        Contains-flat_mapped (partitions_of domain) s.groups g p (Contains-found (has_gid p.gid) s.groups g is)
        (subst (Contains (partitions_of domain g)) is_it
        (Contains-mapped (partition_of domain g) (filter (has_partition domain g) (First ∷ Second ∷ [])) p.side
        (Contains-filtered (has_partition domain g) (First ∷ Second ∷ []) p.side has_it (Contains-side p.side)))))
