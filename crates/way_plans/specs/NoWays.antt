-- What misses with no ways.
-- (For functions and proofs: no promise of the program stands on it.)
use Rattle.std.specs.Prelude.{◌≡◌, ℕ, List}
use Rattle.private_lru.specs.declared.item.Item.{Item}
use Rattle.way_curve.specs.ItemCurves.{uses_in}
use Rattle.way_plans.specs.Plans.{misses_with}

-- Every use does: so the misses with no ways are how many uses there are.
abbrev pub AllMissWithNoWays : Type 0
AllMissWithNoWays = (sets : ℕ) (items : List Item) → misses_with sets items 0 ≡ uses_in items
