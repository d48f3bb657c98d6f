use Rattle.std.proofs.Common.{◌≡◌, ◌<◌, IfSome, Some}
use Rattle.way_plans.specs.Divisions.{IsSpan}
use Rattle.way_plans.specs.Rows.{IsNoBetter, choice_of}
use Rattle.way_plans.specs.declared.span.Span.{Span}
use Rattle.way_plans.proofs.row.best_at.Given as goal

abbrev pub invariant-loop-count : goal.invariant-loop-count
invariant-loop-count l = (IfSome l.best (λ choice. (IsSpan l.free l.least l.first choice.span) × (choice_of l.group l.next choice.span ≡ Some choice)))
    × ((span : Span) → IsSpan l.free l.least l.first span → span.first ≡ l.first → span.count < l.count → IsNoBetter (choice_of l.group l.next span) l.best)
