-- The owners of the partitions of a state rise.
use Rattle.std.proofs.Common.{◌≡◌, ℕ, zero, suc, ◌+◌, ◌*◌, ◌<◌, ◌≤◌, List, [], ◌∷◌, map, filter, get_or, refl, arith}
use Rattle.std.specs.List.{All, AllPairs, flat_map}
use Rattle.std.proofs.lemmas.List.Elements.{All-map}
use Rattle.std.proofs.lemmas.List.Kept.{AllPairs-filter}
use Rattle.lists.proofs.Pairs.{All-flat_map, AllPairs-flat_map, AllPairs-map}
use Rattle.pair_law.specs.Epochs.{state_at}
use Rattle.pair_text.specs.Values.{PairScriptValue}
use Rattle.pair_text.specs.declared.group.PairGroup.{PairGroup}
use Rattle.pair_text.specs.declared.side.Side.{Side}
use Rattle.pair_text.specs.declared.side.Side.TheVariants.{First, Second}
use Rattle.pair_windows.proofs.laws.RisingGroups.{RiseByGid-state_at, gid-state_at}
use Rattle.pair_windows.specs.CdpWindows.{owner_of_partition}
use Rattle.pair_windows.specs.PartitionSpans.{kept_from, kept_of, stay_of}
use Rattle.pair_windows.specs.Partitions.{has_partition, partition_of, partitions_in, partitions_of}
use Rattle.private_lru.specs.declared.span.Span.{Span}
use Rattle.pair_windows.specs.declared.partition.Partition.{Partition}
use Rattle.private_lru.specs.Ends.{RiseByGroup}
use Rattle.private_lru.specs.declared.exclusive_span.ExclusiveSpan.{ExclusiveSpan}

-- one owner before another
abbrev pub Before : Partition → Partition → Type 0
Before p q = owner_of_partition p < owner_of_partition q

-- the owners of a group
record IsOwnedBy (gid : ℕ) (p : Partition) : Type 0 where
  group : p.gid.0 ≡ gid
  low : 2 * gid ≤ owner_of_partition p
  high : owner_of_partition p ≤ 2 * gid + 1

IsOwnedBy-side : (domain : ℕ) (g : PairGroup) (side : Side) → IsOwnedBy g.gid.0 (partition_of domain g side)
IsOwnedBy-side domain g First = record { group = refl; low = omega arith; high = omega arith }
IsOwnedBy-side domain g Second = record { group = refl; low = omega arith; high = omega arith }

IsOwnedBy-partitions : (domain : ℕ) (g : PairGroup) → All (IsOwnedBy g.gid.0) (partitions_of domain g)
IsOwnedBy-partitions domain g = All-map (IsOwnedBy g.gid.0) (partition_of domain g) (filter (has_partition domain g) (First ∷ Second ∷ [])) (λ k d within. IsOwnedBy-side domain g (get_or (filter (has_partition domain g) (First ∷ Second ∷ [])) k d))

-- of one group data stands before code
Before-sides : (domain : ℕ) (g : PairGroup) → AllPairs (λ (a b : Side). Before (partition_of domain g a) (partition_of domain g b)) (First ∷ Second ∷ [])
Before-sides domain g = at
  where
    at : (i j : ℕ) (d : Side) → i < j → j < 2 → Before (partition_of domain g (get_or (First ∷ Second ∷ []) i d)) (partition_of domain g (get_or (First ∷ Second ∷ []) j d))
    at zero zero d lt within = absurd (omega (arith, lt))
    at zero (suc zero) d lt within = omega arith
    at (suc i) (suc zero) d lt within = absurd (omega (arith, lt))
    at i (suc (suc j)) d lt within = absurd (omega (arith, within))
    at (suc i) zero d lt within = absurd (omega (arith, lt))

pub Before-partitions : (domain : ℕ) (groups : List PairGroup) → AllPairs (λ (a b : PairGroup). a.gid.0 < b.gid.0) groups → AllPairs Before (flat_map (partitions_of domain) groups)
Before-partitions domain groups rise = AllPairs-flat_map Before (partitions_of domain) groups
    (λ k d within. let g : PairGroup = get_or groups k d in AllPairs-map Before (partition_of domain g) (filter (has_partition domain g) (First ∷ Second ∷ []))
    (AllPairs-filter (λ (a b : Side). Before (partition_of domain g a) (partition_of domain g b)) (has_partition domain g) (First ∷ Second ∷ []) (Before-sides domain g)))
    (λ i k d lt within a b x small less.
    let gs = rise i k d lt within in
    let one = IsOwnedBy-partitions domain (get_or groups i d) a x small in
    let two = IsOwnedBy-partitions domain (get_or groups k d) b x less in
    let high = one.high in let low = two.low in
    omega (arith, gs, high, low))

-- as the counts of windows want them
pub RiseByGroup-kept : (script : PairScriptValue) (domain first more : ℕ) → RiseByGroup (map stay_of (kept_from script domain first more))
RiseByGroup-kept script domain first more =
    AllPairs-map (λ (a b : ℕ). a < b) (λ (s : ExclusiveSpan). s.gid.0) (map stay_of (kept_from script domain first more))
    (AllPairs-map (λ (a b : ExclusiveSpan). a.gid.0 < b.gid.0) stay_of (kept_from script domain first more)
    (AllPairs-map (λ (a b : Span Partition). owner_of_partition a.held < owner_of_partition b.held) (kept_of script domain first more) (partitions_in domain (state_at script first))
    (Before-partitions domain (state_at script first).groups (RiseByGid-state_at script first).rising)))

-- the groups have numbers up to the epoch
pub gid-kept : (script : PairScriptValue) (domain first more most : ℕ) → first < most → All (λ (k : Span Partition). k.held.gid.0 < most) (kept_from script domain first more)
gid-kept script domain first more most lt =
    All-map (λ (k : Span Partition). k.held.gid.0 < most) (kept_of script domain first more) (partitions_in domain (state_at script first))
    (All-flat_map (λ (p : Partition). p.gid.0 < most) (partitions_of domain) (state_at script first).groups
    (λ k d within x e small.
    let le = gid-state_at script first k d within in
    let own = (IsOwnedBy-partitions domain (get_or (state_at script first).groups k d) x e small).group in
    omega (arith, le, own, lt)))
