-- What a slice needs for a step.
-- (For functions and proofs: no promise of the program stands on it.)
use Rattle.std.specs.Prelude.{ℕ, ◌%◌, ◌^◌, ◌<◌}
use Rattle.cache_core.specs.History.{IsOwn, Shape}
use Rattle.rc_base.specs.declared.names.Tag.{Tag}
use Rattle.tree_law.specs.declared.follow.Follow.{Follow}
use Rattle.tree_law.specs.declared.follow.Follow.TheVariants.{Drop, Flush, Lock, Raise, Touch}

-- For an access: a line of the slice's own, some way of it, and an RMID that it counts.
pub record CanReach (m : Shape) (rmids : ℕ) (tag : Tag) (line : ℕ) : Type 0 where
  pub own : IsOwn m (line % m.sets)
  pub mask : 0 < tag.mask % 2 ^ m.ways
  pub rmid : tag.rmid < rmids

-- For what follows a command: a lock has its lines below 2^60, a touch needs what an access needs, and a drop a line of the
-- slice's own.
abbrev pub CanFollow : Shape → ℕ → Follow → Type 0
CanFollow m rmids (Raise domain) = Unit {0}
CanFollow m rmids (Flush domain) = Unit {0}
CanFollow m rmids (Lock domain mask first_line) = first_line < 2 ^ 60
CanFollow m rmids (Touch tag line) = CanReach m rmids tag line
CanFollow m rmids (Drop domain line) = IsOwn m (line % m.sets)
