-- What several uses and drops add to a curve.
-- (For functions and proofs: no promise of the program stands on it.)
use Rattle.std.specs.Prelude.{List, ◌++◌}
use Rattle.private_lru.specs.declared.item.Item.{Item}
use Rattle.way_curve.specs.IsCurve.{CurveValue, IsItemCurve}

-- Whatever items the curve was that of, it is now that of these and of more.
abbrev pub AddsItems : CurveValue → CurveValue → List Item → Type 0
AddsItems old new more = (items : List Item) → IsItemCurve old items → IsItemCurve new (items ++ more)
