-- What several items add to a curve.
use Rattle.std.proofs.Common.{List, [], ◌++◌, sym, subst, append-nil, append_assoc}
use Rattle.private_lru.specs.declared.item.Item.{Item}
use Rattle.way_plans.specs.Noted.{AddsItems}
use Rattle.way_curve.specs.IsCurve.{CurveValue, IsItemCurve}

-- nothing, to the same curve
pub AddsItems-none : (curve : CurveValue) → AddsItems curve curve []
AddsItems-none curve = λ items is. subst (λ (l : List Item). IsItemCurve curve l) (sym (append-nil items)) is

-- some, and then some more
pub AddsItems-append : (old between new : CurveValue) (first second : List Item) → AddsItems old between first → AddsItems between new second → AddsItems old new (first ++ second)
AddsItems-append old between new first second a b = λ items is. subst (λ (l : List Item). IsItemCurve new l) (append_assoc items first second) (b (items ++ first) (a items is))
