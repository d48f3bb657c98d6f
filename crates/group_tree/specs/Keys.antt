-- The keys by which groups are looked up.
-- (For functions and proofs: no promise of the program stands on it.)
use Rattle.std.specs.Prelude.{ℕ, ◌+◌, Bool, ◌&&◌, ◌||◌, ◌==◌, nat_lt, Option, Some, None}
use Rattle.rc_base.specs.declared.names.Gid.{Gid}
use Rattle.path_names.specs.declared.names.NameId.{NameId}
use Rattle.group_tree.specs.declared.group.Group.{Group}
use Rattle.group_tree.specs.declared.group_kind.GroupKind.{GroupKind}
use Rattle.group_tree.specs.declared.group_kind.GroupKind.TheVariants.{Control, Monitor}
use Rattle.group_tree.specs.declared.key.Key.{Key}

-- the key of a gid
abbrev pub gid_key : Gid → Key
gid_key gid = record { high = 0; low = gid.0 }

-- the key of a control group's name
abbrev pub control_key : NameId → Key
control_key name = record { high = 0; low = name.0 + 1 }

-- the key of the name of a control group's monitor group
abbrev pub monitor_key : Gid → NameId → Key
monitor_key parent name = record { high = parent.0 + 1; low = name.0 + 1 }

-- a number for each directory in which groups stand
abbrev pub kind_number : GroupKind → ℕ
kind_number Control = 0
kind_number (Monitor parent) = parent.0 + 1

-- a number for each name, and for none
abbrev pub name_number : Option NameId → ℕ
name_number None = 0
name_number (Some name) = name.0 + 1

-- a group's key by its gid
abbrev pub by_gid : Group → Key
by_gid g = gid_key g.gid

-- a group's key by its directory
abbrev pub by_directory : Group → Key
by_directory g = record { high = kind_number g.kind; low = name_number g.name }

-- whether two keys are the same
abbrev pub is_key : Key → Key → Bool
is_key a b = (a.high == b.high) && (a.low == b.low)

-- whether a key comes before another
abbrev pub is_below : Key → Key → Bool
is_below a b = nat_lt a.high b.high || ((a.high == b.high) && nat_lt a.low b.low)
