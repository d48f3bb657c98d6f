-- flush: every way is emptied, in the cache of one domain or of each.
-- (This project's profile.)
use Rattle.std.specs.Prelude.{ℕ, List, [], ◌∷◌, map, Option, Some, None}
use Rattle.std.specs.List.{range_with_len}
use Rattle.machine.specs.declared.parameters.Parameters.{Parameters}
use Rattle.tree_law.specs.declared.follow.Follow.{Follow}
use Rattle.tree_law.specs.declared.follow.Follow.TheVariants as follows

-- a flush of its domain, or of every domain, rising
unfoldable pub after : Parameters → Option ℕ → List Follow
after m None = map (λ d. follows.Flush d) (range_with_len 0 m.domains)
after m (Some domain) = follows.Flush domain ∷ []
