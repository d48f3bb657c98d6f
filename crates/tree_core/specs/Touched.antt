-- The region of a domain, where it is a group's.
-- (For functions and proofs: no promise of the program stands on it.)
use Rattle.std.specs.Prelude.{ℕ, ◌==◌, if◌then◌else◌, Option, Some, None}
use Rattle.pseudo_lock.specs.declared.region.Region.{Region}
use Rattle.rc_base.specs.declared.names.Gid.{Gid}
use Rattle.tree_law.specs.Space.{region_in}
use Rattle.tree_law.specs.State.{State}

-- a region, where it is this group's
abbrev pub only_of : Gid → Option Region → Option Region
only_of gid None = None
only_of gid (Some r) = if r.gid.0 == gid.0 then Some r else None

-- the region of a domain, where it is this group's
abbrev pub region_at : State → Gid → ℕ → Option Region
region_at s gid domain = only_of gid (region_in s.regions domain)
