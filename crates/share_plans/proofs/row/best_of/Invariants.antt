use Rattle.std.proofs.Common.{ℕ, ◌+◌, ◌<◌, ◌≤◌, IfSome}
use Rattle.share_plans.specs.Rows.{IsChosen, IsFit, IsNoBetter, choice_of}
use Rattle.share_plans.proofs.row.best_of.Given as goal

abbrev pub invariant-loop-count : goal.invariant-loop-count
invariant-loop-count l = record {
  chosen : IfSome l.best (IsChosen l.goal l.demand l.later.row.now l.ways);
  fit : IfSome l.best (λ choice. IsFit l.goal (l.later.programs + 1) choice.score);
  others : (count : ℕ) → l.demand.least ≤ count → count < l.count → IsNoBetter (choice_of l.goal l.demand l.later.row.now l.ways count) l.best;
}
