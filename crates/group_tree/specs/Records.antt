-- What is asked of the record of one group.
use Rattle.std.specs.Prelude.{ℕ, Bool, true, false, ◌&&◌, not, ◌==◌, Option, Some, None, replicate, slice_index}
use Rattle.rc_base.specs.Gids.{default_gid}
use Rattle.rc_base.specs.declared.names.Gid.{Gid}
use Rattle.rc_base.specs.declared.names.Mode.{Mode}
use Rattle.rc_base.specs.declared.names.Mode.TheVariants.{Shareable, Exclusive, LockSetup, Locked}
use Rattle.path_names.specs.declared.names.NameId.{NameId}
use Rattle.group_tree.specs.declared.group.Group.{Group}
use Rattle.group_tree.specs.declared.group_kind.GroupKind.{GroupKind}
use Rattle.group_tree.specs.declared.group_kind.GroupKind.TheVariants.{Control, Monitor}

-- (For proofs.) the record that stands in a free place
abbrev pub blank : Group
blank = record { gid = default_gid; name = None; kind = Control; mode = Shareable; class = None; rmid = None; masks = replicate 8 0 }

-- whether a group has this gid
abbrev pub has_gid : Gid → Group → Bool
has_gid gid g = gid.0 == g.gid.0

-- whether a directory's name is this one; the root has no name
abbrev pub has_name : NameId → Option NameId → Bool
has_name name None = false
has_name name (Some own) = name.0 == own.0

-- whether this is the kind of a control group
abbrev pub is_control : GroupKind → Bool
is_control Control = true
is_control (Monitor parent) = false

-- whether this is the kind of a monitor group of a control group
abbrev pub is_monitor_of : Gid → GroupKind → Bool
is_monitor_of control Control = false
is_monitor_of control (Monitor parent) = control.0 == parent.0

-- whether a group is the control group of this name
abbrev pub is_control_named : NameId → Group → Bool
is_control_named name g = is_control g.kind && has_name name g.name

-- whether a group is the monitor group of this name of a control group
abbrev pub is_monitor_named : Gid → NameId → Group → Bool
is_monitor_named parent name g = is_monitor_of parent g.kind && has_name name g.name

-- whether two modes are the same
abbrev pub is_mode : Mode → Mode → Bool
is_mode Shareable Shareable = true
is_mode Exclusive Exclusive = true
is_mode LockSetup LockSetup = true
is_mode Locked Locked = true
is_mode _ _ = false

-- whether a group is a control group in this mode
abbrev pub has_mode : Mode → Group → Bool
has_mode mode g = is_control g.kind && is_mode mode g.mode

-- whether a group is another than this one; every group is, where none is named
abbrev pub is_other : Option Gid → Group → Bool
is_other None g = true
is_other (Some gid) g = not (has_gid gid g)

-- whether a group is another control group than this one, and in this mode
abbrev pub is_other_in : Option Gid → Mode → Group → Bool
is_other_in gid mode g = is_other gid g && has_mode mode g

-- a group's mask in a domain
abbrev pub mask_in : ℕ → Group → ℕ
mask_in domain g = slice_index g.masks domain
