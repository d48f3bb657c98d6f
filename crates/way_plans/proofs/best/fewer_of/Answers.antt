use Rattle.std.proofs.Common.{IfSome, Option, ap, arith, subst}
use Rattle.std.specs.declared.alloc.Global.{Global}
use Rattle.std.specs.declared.vec.Vec.{Vec}
use Rattle.way_plans.specs.AnyOrder.{IsBestInAnyOrder}
use Rattle.way_plans.specs.Divisions.{IsBestDivision, misses_of}
use Rattle.way_plans.specs.declared.span.Span.{Span}
use Rattle.way_plans.proofs.InOrder.{IsBestInAnyOrder-from}
use Rattle.way_plans.proofs.best.fewer_of.Goals as goal

pub returns-else-misses_of-clause-best : goal.returns-else-misses_of-clause-best
returns-else-misses_of-clause-best c = λ free least some in_order any.
    let groups = c.args.groups.now in
    let own : IsBestDivision free least groups c.in-Some-Some.first.items = subst (λ (o : Option (Vec Span Global)). IfSome o (λ spans. IsBestDivision free least groups spans.items)) c.in-Some-Some.is-0 in_order in
    let other : IsBestInAnyOrder free least groups c.in-Some-Some.second.items = subst (λ (o : Option (Vec Span Global)). IfSome o (λ spans. IsBestInAnyOrder free least groups spans.items)) c.in-Some-Some.is-1 any in
    IsBestInAnyOrder-from free least groups c.in-Some-Some.first.items c.in-Some-Some.second.items own.division other
    (omega (
      arith,
      c.if-misses_of.false,
      c.misses_of.ensures.misses,
      c.misses_of-in-Some-Some.ensures.misses,
      ap (misses_of groups) c.deref.ensures.value,
      ap (misses_of groups) c.deref-in-Some-Some.ensures.value,
    ))
