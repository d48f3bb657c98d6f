use Rattle.std.proofs.Common.{◌≡◌, ◌<◌, ◌≤◌, ℕ, All, List, length, get_or}
use Rattle.way_curve.specs.IsCurve.{IsCurve}
use Rattle.share_plans.specs.Sharing.{misses_in}
use Rattle.share_plans.proofs.demands.misses_of.Given as goal

abbrev pub invariant-loop-ways : goal.invariant-loop-ways
invariant-loop-ways l = record {
  all : length l.row ≡ 33;
  few : All (λ n. n ≤ l.curve.uses) l.row;
  each : (k : ℕ) → k < l.ways → (lines : List ℕ) → IsCurve l.curve lines → get_or l.row k 0 ≡ misses_in l.curve.sets lines k;
}
