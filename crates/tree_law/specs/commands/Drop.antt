-- clflush: one line is flushed from the cache of every domain, or a line of a region from its domain's.
-- (Intel SDM volume 2, CLFLUSH; this project's profile.)
use Rattle.std.specs.Prelude.{ℕ, ◌+◌, ◌/◌, nat_le, if◌then◌else◌, List, [], ◌∷◌, map, Option, Some, None}
use Rattle.std.specs.List.{range_with_len}
use Rattle.cbm.specs.Masks.{ways_of}
use Rattle.machine.specs.Maps.{bytes_of, line_of}
use Rattle.machine.specs.declared.parameters.Parameters.{Parameters}
use Rattle.path_names.specs.declared.path_ref.PathRef.{PathRef}
use Rattle.pseudo_lock.specs.declared.region.Region.{Region}
use Rattle.rc_base.specs.declared.replies.Why.TheVariants.{NoSuchPath, PastRegion}
use Rattle.tree_law.specs.Refusals.{Refusal, plain}
use Rattle.tree_law.specs.State.{State}
use Rattle.tree_law.specs.commands.Touch.{touched}
use Rattle.tree_law.specs.declared.follow.Follow.{Follow}
use Rattle.tree_law.specs.declared.follow.Follow.TheVariants as follows

-- a drop of the line of an address in every domain, rising
unfoldable pub after_line : Parameters → ℕ → List Follow
after_line m addr = map (λ d. follows.Drop d (line_of addr)) (range_with_len 0 m.domains)

-- what is against a flush at an offset of the region that a path names: there is none, or the offset is past it
abbrev pub against_region : Parameters → ℕ → Option (ℕ × Region) → Option Refusal
against_region m offset None = Some (plain NoSuchPath)
against_region m offset (Some (domain, r)) = if nat_le (bytes_of m (ways_of r.mask)) offset then Some (plain PastRegion) else None

-- why a flush of a line of a region is refused
unfoldable pub refusal : Parameters → State → PathRef → ℕ → Option Refusal
refusal m s path offset = against_region m offset (touched s path)

-- what follows a flush at an offset of this region
abbrev pub follow : ℕ → Option (ℕ × Region) → List Follow
follow offset None = []
follow offset (Some (domain, r)) = follows.Drop domain (r.first_line + offset / 64) ∷ []

-- a drop of the line of an offset in the region's domain
unfoldable pub after_region : State → PathRef → ℕ → List Follow
after_region s path offset = follow offset (touched s path)
