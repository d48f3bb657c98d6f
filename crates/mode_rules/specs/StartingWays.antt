-- The ways of a new group.
use Rattle.std.specs.Prelude.{ℕ, Bool, ◌&&◌, ◌||◌, not, ◌==◌, List, length, filter, Option, Some, None, if◌then◌else◌}
use Rattle.std.specs.List.{range_with_len}
use Rattle.cbm.specs.declared.geometry.Geometry.{Geometry}
use Rattle.cbm.specs.Masks.{has_way, lowest_run}
use Rattle.cbm.specs.Validity.{is_too_few}
use Rattle.mode_rules.specs.declared.domain_use.DomainUse.{DomainUse}

-- whether a way is in no counted group's mask, in no region and not used by other hardware
abbrev pub is_unused : DomainUse → ℕ → Bool
is_unused others way =
    not (has_way others.shared way) && not (has_way others.exclusive way) && not (has_way others.region way) && not (has_way others.hardware way)

-- whether a new group may start with a way: other hardware uses it, a shareable group has it, or it is unused
abbrev pub may_start_with : DomainUse → ℕ → Bool
may_start_with others way = has_way others.hardware way || has_way others.shared way || is_unused others way

-- all the ways that a new group may start with
unfoldable pub starting_ways : ℕ → DomainUse → List ℕ
starting_ways len others = filter (may_start_with others) (range_with_len 0 len)

-- whether no mask of these ways has space: there is none, or their lowest run is too short
abbrev pub has_no_space : Geometry → List ℕ → Bool
has_no_space g ways = (length ways == 0) || is_too_few g ways

-- what a new group gets of these ways: all of them on a sparse machine, and on any other their lowest run
abbrev pub granted_ways : Geometry → List ℕ → List ℕ
granted_ways g ways = if g.sparse then ways else lowest_run ways

-- what a new group gets of these ways where there is space
abbrev pub space_in : Geometry → List ℕ → Option (List ℕ)
space_in g ways = if has_no_space g ways then None else Some (granted_ways g ways)

-- the ways of a new group, where the cache has space for one
unfoldable pub initial_ways : Geometry → DomainUse → Option (List ℕ)
initial_ways g others = space_in g (starting_ways g.len others)
