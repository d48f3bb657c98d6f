-- How many names there are, while names are only added.
use Rattle.std.proofs.Common.{ℕ, ◌≤◌, List, length, ap, arith, length-take}
use Rattle.path_names.specs.Interned.{Keeps}

-- there are no fewer than before
pub length-kept : (old new : List (List ℕ)) → Keeps old new → length old ≤ length new
length-kept old new kept = omega (arith, length-take (length old) new, ap length kept)

pub ruleset lengths = (length-kept)
