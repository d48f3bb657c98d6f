-- The serial numbers of groups.
use Rattle.std.specs.Prelude.{Bool, ◌==◌}
use Rattle.rc_base.specs.declared.names.Gid.{Gid}

-- the default group has the number 0
abbrev pub default_gid : Gid
default_gid = record { 0 = 0 }

-- whether it is the default group's number
abbrev pub is_default : Gid → Bool
is_default gid = gid.0 == 0
