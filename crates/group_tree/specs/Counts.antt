-- How many groups have each way of a cache.
-- (For functions and proofs: no promise of the program stands on it.)
use Rattle.std.specs.Prelude.{◌≡◌, ℕ, ◌+◌, ◌*◌, ◌<◌, Bool, ◌&&◌, List, [], ◌∷◌, length, get_or, replicate, find, bit_and, bit_xor, Option, Some, None, if◌then◌else◌}
use Rattle.std.specs.Int.{bit_at}
use Rattle.std.specs.List.{count_by}
use Rattle.cbm.specs.Masks.{has_way}
use Rattle.rc_base.specs.declared.names.Gid.{Gid}
use Rattle.rc_base.specs.declared.names.Mode.{Mode}
use Rattle.rc_base.specs.declared.names.Mode.TheVariants.{Shareable, Exclusive, LockSetup, Locked}
use Rattle.group_tree.specs.declared.group.Group.{Group}
use Rattle.group_tree.specs.declared.mode_counts.ModeCounts.{ModeCounts}
use Rattle.group_tree.specs.Lists.{IsTree}
use Rattle.group_tree.specs.Records.{has_gid, has_mode, is_control, mask_in}

-- ---- counts of the ways, whose binary digits stand side by side, the lowest first

-- the count of a way
abbrev pub count_of : ℕ → List ℕ → ℕ
count_of way [] = 0
count_of way (digit ∷ higher) = bit_at digit way + 2 * count_of way higher

-- one more for each way of a mask
abbrev pub added : ℕ → List ℕ → List ℕ
added carry [] = []
added carry (digit ∷ higher) = bit_xor digit carry ∷ added (bit_and carry digit) higher

-- one less for each way of a mask
abbrev pub removed : ℕ → List ℕ → List ℕ
removed borrow [] = []
removed borrow (digit ∷ higher) = bit_xor digit borrow ∷ removed (bit_and borrow (bit_xor digit borrow)) higher

-- the counts of the ways are these
pub record CountsAre (digits : List ℕ) (number : ℕ → ℕ) : Type 0 where
  pub size : length digits ≡ 9
  pub each : (way : ℕ) → count_of way digits ≡ number way

-- ---- the counts of a domain, by the mode of the groups

-- the counts of no groups
abbrev pub no_counts : ModeCounts
no_counts = record { shareable = record { digits = replicate 9 0 }; exclusive = record { digits = replicate 9 0 }; locked = record { digits = replicate 9 0 } }

-- a mask more of a group in this mode
abbrev pub added_in : Mode → ℕ → ModeCounts → ModeCounts
added_in Shareable mask counts = record counts { shareable = record { digits = added mask counts.shareable.digits } }
added_in Exclusive mask counts = record counts { exclusive = record { digits = added mask counts.exclusive.digits } }
added_in LockSetup mask counts = counts
added_in Locked mask counts = record counts { locked = record { digits = added mask counts.locked.digits } }

-- a mask fewer of a group in this mode
abbrev pub removed_in : Mode → ℕ → ModeCounts → ModeCounts
removed_in Shareable mask counts = record counts { shareable = record { digits = removed mask counts.shareable.digits } }
removed_in Exclusive mask counts = record counts { exclusive = record { digits = removed mask counts.exclusive.digits } }
removed_in LockSetup mask counts = counts
removed_in Locked mask counts = record counts { locked = record { digits = removed mask counts.locked.digits } }

-- a group more, where it is a control group
abbrev pub with_group : Group → ℕ → ModeCounts → ModeCounts
with_group g domain counts = if is_control g.kind then added_in g.mode (mask_in domain g) counts else counts

-- a group fewer, where it is a control group
abbrev pub without_group : Group → ℕ → ModeCounts → ModeCounts
without_group g domain counts = if is_control g.kind then removed_in g.mode (mask_in domain g) counts else counts

-- a group fewer, where there is one
abbrev pub without_some : Option Group → ℕ → ModeCounts → ModeCounts
without_some None domain counts = counts
without_some (Some g) domain counts = without_group g domain counts

-- the counts of the ways, for each mode in which groups have ways, are these
pub record ModeCountsAre (counts : ModeCounts) (number : Mode → ℕ → ℕ) : Type 0 where
  pub shareable : CountsAre counts.shareable.digits (number Shareable)
  pub exclusive : CountsAre counts.exclusive.digits (number Exclusive)
  pub locked : CountsAre counts.locked.digits (number Locked)

-- ---- the counts of all groups

-- whether a group is a control group in this mode and has this way of a domain's cache
abbrev pub has_way_in : Mode → ℕ → ℕ → Group → Bool
has_way_in mode domain way g = has_mode mode g && has_way (mask_in domain g) way

-- how many groups are such
abbrev pub groups_with : List Group → ℕ → Mode → ℕ → ℕ
groups_with groups domain mode way = count_by (has_way_in mode domain way) groups

-- the counts of each domain are what counting the groups gives
pub record IsCountOf (groups : List Group) (domains : List ModeCounts) : Type 0 where
  pub size : length domains ≡ 8
  pub each : (domain : ℕ) (d : ModeCounts) → domain < 8 → ModeCountsAre (get_or domains domain d) (groups_with groups domain)

-- the groups of a tree, and their counts
pub record IsCountedTree (groups : List Group) (domains : List ModeCounts) : Type 0 where
  pub tree : IsTree groups
  pub counted : IsCountOf groups domains

-- the group with this gid, where one is named and there
abbrev pub own_group : Option Gid → List Group → Option Group
own_group None groups = None
own_group (Some gid) groups = find (has_gid gid) groups
