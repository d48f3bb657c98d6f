-- touch: one access to a line of a region.
-- (Kernel documentation, "Cache Pseudo-Locking"; this project's profile.)
use Rattle.std.specs.Prelude.{ℕ, ◌+◌, ◌/◌, Bool, false, not, ◌==◌, nat_le, find, if◌then◌else◌, List, [], ◌∷◌, Option, Some, None, option_and_then}
use Rattle.std.specs.List.{enumerate_from}
use Rattle.cbm.specs.Masks.{ways_of}
use Rattle.group_tree.specs.Records.{has_mode}
use Rattle.group_tree.specs.declared.group.Group.{Group}
use Rattle.machine.specs.Maps.{bytes_of, domain_of}
use Rattle.machine.specs.declared.parameters.Parameters.{Parameters}
use Rattle.path_names.specs.declared.dirs.DirRef.TheVariants.{Ctrl}
use Rattle.path_names.specs.declared.path_ref.PathRef.{PathRef}
use Rattle.path_names.specs.declared.path_ref.PathRef.TheVariants.{Dir}
use Rattle.rc_base.specs.declared.names.Gid.{Gid}
use Rattle.rc_base.specs.declared.names.Mode.TheVariants.{Locked}
use Rattle.rc_base.specs.declared.names.Tag.{Tag}
use Rattle.rc_base.specs.declared.replies.Why.TheVariants.{NoSuchPath, PastRegion, WrongCpu}
use Rattle.tree_law.specs.Places.{group_at}
use Rattle.tree_law.specs.Refusals.{Refusal, plain}
use Rattle.tree_law.specs.Resolving.{Owned, resolve}
use Rattle.tree_law.specs.State.{State}
use Rattle.pseudo_lock.specs.declared.region.Region.{Region}
use Rattle.tree_law.specs.declared.follow.Follow.{Follow}
use Rattle.tree_law.specs.declared.follow.Follow.TheVariants as follows

-- whether the region of a domain is this group's
abbrev pub is_held_by : Gid → ℕ × Option Region → Bool
is_held_by gid (domain, None) = false
is_held_by gid (domain, Some r) = r.gid.0 == gid.0

-- a region with its domain, where the domain has one
abbrev pub with_domain : ℕ × Option Region → Option (ℕ × Region)
with_domain (domain, None) = None
with_domain (domain, Some r) = Some (domain, r)

-- the region of a group
abbrev pub region_of : State → Gid → Option (ℕ × Region)
region_of s gid = option_and_then with_domain (find (is_held_by gid) (enumerate_from 0 s.regions))

-- the region of a group, where it is pseudo-locked
abbrev pub region_if_locked : State → Group → Option (ℕ × Region)
region_if_locked s g = if has_mode Locked g then region_of s g.gid else None

-- the region of the pseudo-locked group whose directory this is
unfoldable pub touched : State → PathRef → Option (ℕ × Region)
touched s (Dir (Ctrl name)) = option_and_then (region_if_locked s) (group_at s (Ctrl name))
touched s path = None

-- what is against a touch of the region that a path names: there is none, the offset is past it, or the CPU is elsewhere
abbrev pub against_region : Parameters → ℕ → ℕ → Option (ℕ × Region) → Option Refusal
against_region m offset cpu None = Some (plain NoSuchPath)
against_region m offset cpu (Some (domain, r)) =
    if nat_le (bytes_of m (ways_of r.mask)) offset then Some (plain PastRegion) else
    if not (domain_of m cpu == domain) then Some (plain WrongCpu) else None

-- why a touch is refused, where it is
unfoldable pub refusal : Parameters → State → PathRef → ℕ → ℕ → Option Refusal
refusal m s path offset cpu = against_region m offset cpu (touched s path)

-- what an access knows of the tree at an epoch
abbrev pub tag_of : Owned → ℕ → ℕ → Tag
tag_of o domain epoch = record { epoch = epoch; owner = o.owner; class = o.class; rmid = o.rmid; mask = o.mask; domain = domain }

-- what follows a touch of this region: one access, with the tag of the state after the command
abbrev pub follow : Parameters → State → ℕ → ℕ → ℕ → ℕ → Option (ℕ × Region) → List Follow
follow m s k offset task cpu None = []
follow m s k offset task cpu (Some (domain, r)) = follows.Touch (tag_of (resolve m s task cpu) (domain_of m cpu) (k + 1)) (r.first_line + offset / 64) ∷ []

-- what follows an accepted touch
unfoldable pub after : Parameters → State → ℕ → PathRef → ℕ → ℕ → ℕ → List Follow
after m s k path offset task cpu = follow m s k offset task cpu (touched s path)
