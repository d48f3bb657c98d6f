use Rattle.std.proofs.Common.{◌≡◌, [], All, length}
use Rattle.way_curve.specs.LevelSteps.{HaveSeen, LevelsValue}
use Rattle.share_plans.proofs.program_levels.unused_levels.Given as goal

abbrev pub invariant-loop : goal.invariant-loop
invariant-loop l = record {
  count : length l.levels.items ≡ l.counter;
  unused : All (λ (own : LevelsValue). HaveSeen l.shapes own []) l.levels.items;
}
