-- The list of the groups, and how it changes.
use Rattle.std.specs.Prelude.{◌≡◌, ◌≢◌, ℕ, ◌≤◌, Bool, not, List, length, map, filter, AllPairs, Some, slice_get, if◌then◌else◌}
use Rattle.std.specs.List.{list_any}
use Rattle.std.specs.Option.{option_map}
use Rattle.rc_base.specs.declared.names.Gid.{Gid}
use Rattle.group_tree.specs.declared.group.Group.{Group}
use Rattle.group_tree.specs.Records.{has_gid}

-- (For proofs.) the groups in order of creation, and the ways that other hardware uses too, as a mask
pub record GroupList : Type 0 where
  pub groups : List Group
  pub shareable : ℕ

-- (For proofs.) whether some group has this gid
abbrev pub has_group : Gid → List Group → Bool
has_group gid groups = list_any (has_gid gid) groups

-- a group, or the record that takes its place
abbrev pub exchanged : Group → Group → Group
exchanged new g = if has_gid new.gid g then new else g

-- the groups with this record in place of the one with its gid
abbrev pub replaced : Group → List Group → List Group
replaced new groups = map (exchanged new) groups

-- the groups without the one with this gid, in the same order
abbrev pub without : Gid → List Group → List Group
without gid groups = filter (λ g. not (has_gid gid g)) groups

-- (For proofs.) no two groups have the same gid
abbrev pub GidsDiffer : List Group → Type 0
GidsDiffer groups = AllPairs (λ one later. one.gid.0 ≢ later.gid.0) groups

-- (For proofs.) the first group is the default group, which has gid 0
abbrev pub BeginsWithDefault : List Group → Type 0
BeginsWithDefault groups = option_map (λ g. g.gid.0) (slice_get groups 0) ≡ Some 0

-- (For proofs.) how many groups there are at most
abbrev pub places : ℕ
places = 328

-- (For proofs.) the groups of a tree: the default group first, each with a gid and a place of its own
pub record IsTree (groups : List Group) : Type 0 where
  pub fits : length groups ≤ places
  pub default_first : BeginsWithDefault groups
  pub gids_differ : GidsDiffer groups
