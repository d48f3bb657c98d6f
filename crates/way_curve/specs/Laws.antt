-- Laws of all curves.
-- (For functions and proofs: no promise of the program stands on it.)
use Rattle.std.specs.Prelude.{ℕ, ◌≤◌, List}
use Rattle.private_lru.specs.declared.item.Item.{Item}
use Rattle.way_curve.specs.Curves.{set_hits_of}
use Rattle.way_curve.specs.ItemCurves.{item_hits_of}

-- Of the same uses as many hit with more ways, or more.
abbrev pub HitsNeverFall : Type 0
HitsNeverFall = (sets ways more : ℕ) (lines : List ℕ) → ways ≤ more → set_hits_of sets ways lines ≤ set_hits_of sets more lines

-- The same where lines are dropped in between.
abbrev pub ItemHitsNeverFall : Type 0
ItemHitsNeverFall = (sets ways more : ℕ) (items : List Item) → ways ≤ more → item_hits_of sets ways items ≤ item_hits_of sets more items
