-- What follows a command.
-- (For functions and proofs: no promise of the program stands on it.)
use Rattle.std.specs.Prelude.{◌<◌, ◌^◌}
use Rattle.machine.specs.declared.parameters.Parameters.{Parameters}
use Rattle.tree_law.specs.declared.follow.Follow.{Follow}
use Rattle.tree_law.specs.declared.follow.Follow.TheVariants.{Raise, Flush, Lock, Touch, Drop}

-- What a slice needs of a follow-up: a lock has ways of the caches, and a touch has an RMID of the machine and ways of the
-- caches; their lines are below 2^60, and so is that of a drop.
abbrev pub IsReady : Parameters → Follow → Type 0
IsReady m (Raise domain) = Unit {0}
IsReady m (Flush domain) = Unit {0}
IsReady m (Lock domain mask first_line) = (0 < mask) × (mask < 2 ^ m.ways) × (first_line < 2 ^ 60)
IsReady m (Touch tag line) = (tag.rmid < m.rmids) × (0 < tag.mask) × (tag.mask < 2 ^ m.ways) × (line < 2 ^ 60)
IsReady m (Drop domain line) = line < 2 ^ 60
