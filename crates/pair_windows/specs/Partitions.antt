-- The ways of a domain that one side of a group has for itself, and how long it has them.
use Rattle.std.specs.Prelude.{ℕ, ◌-◌, Bool, false, not, ◌==◌, ◌&&◌, List, [], ◌∷◌, filter, length, map}
use Rattle.std.specs.List.{flat_map}
use Rattle.std.specs.Option.{option_map_or}
use Rattle.cbm.specs.Masks.{overlaps}
use Rattle.group_tree.specs.Records.{is_mode}
use Rattle.pair_law.specs.Epochs.{state_at}
use Rattle.pair_law.specs.State.{PairState, group_of, mask_in}
use Rattle.pair_text.specs.Values.{PairScriptValue, commands_of}
use Rattle.pair_text.specs.declared.group.PairGroup.{PairGroup}
use Rattle.pair_text.specs.declared.side.Side.{Side}
use Rattle.pair_text.specs.declared.side.Side.TheVariants.{First, Second}
use Rattle.pair_law.specs.CdpWindows.{other_side}
use Rattle.pair_windows.specs.declared.partition.Partition.{Partition}
use Rattle.rc_base.specs.declared.names.Gid.{Gid}
use Rattle.rc_base.specs.declared.names.Mode.TheVariants.{Exclusive}
use Rattle.private_lru.specs.Spans.{last_within}

-- whether a group is exclusive, with this mask on a side of a domain, and its mask on the other side there does not meet it
abbrev pub is_alone_on : ℕ → Side → ℕ → PairGroup → Bool
is_alone_on domain side mask g = is_mode Exclusive g.mode && (mask_in side domain g == mask) && not (overlaps mask (mask_in (other_side side) domain g))

-- the same of the group of a state that has this serial number
abbrev pub is_alone : ℕ → Gid → Side → ℕ → PairState → Bool
is_alone domain group side mask s = option_map_or (is_alone_on domain side mask) (group_of s group) false

-- ---- partitions of a state

-- the ways of a group's mask on a side
abbrev pub partition_of : ℕ → PairGroup → Side → Partition
partition_of domain g side = record { gid = g.gid; side = side; mask = mask_in side domain g }

-- whether the group has them for that side alone
abbrev pub has_partition : ℕ → PairGroup → Side → Bool
has_partition domain g side = is_alone_on domain side (mask_in side domain g) g

-- the partitions of a group in a domain: that of data, and that of code
abbrev pub partitions_of : ℕ → PairGroup → List Partition
partitions_of domain g = map (partition_of domain g) (filter (has_partition domain g) (First ∷ Second ∷ []))

-- the partitions of a domain in a state, by groups in order of creation, and so of their serial numbers
abbrev pub partitions_in : ℕ → PairState → List Partition
partitions_in domain s = flat_map (partitions_of domain) s.groups

-- ---- how long

-- whether a partition is one in a state
abbrev pub is_kept : ℕ → Partition → PairState → Bool
is_kept domain p s = is_alone domain p.gid p.side p.mask s

-- the same of the state of an epoch
abbrev pub is_kept_at : PairScriptValue → ℕ → Partition → ℕ → Bool
is_kept_at script domain p epoch = is_kept domain p (state_at script epoch)

-- the last epoch up to which a partition of this epoch is kept without a break
abbrev pub last_epoch : PairScriptValue → ℕ → Partition → ℕ → ℕ
last_epoch script domain p epoch = last_within (is_kept_at script domain p) epoch (length (commands_of script) - epoch)
