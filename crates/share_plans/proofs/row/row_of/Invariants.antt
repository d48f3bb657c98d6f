use Rattle.std.proofs.Common.{◌≡◌, ℕ, ◌+◌, ◌<◌, IfSome, length}
use Rattle.share_plans.specs.Rows.{IsBestFor, IsFit, at}
use Rattle.share_plans.proofs.row.row_of.Given as goal

abbrev pub invariant-loop-ways : goal.invariant-loop-ways
invariant-loop-ways l = record {
  all : length l.row ≡ 33;
  best : (fewer : ℕ) → fewer < l.ways → IsBestFor l.goal l.demand l.next fewer (at l.row fewer);
  fit : (fewer : ℕ) → IfSome (at l.row fewer) (λ choice. IsFit l.goal (l.after + 1) choice.score);
}
