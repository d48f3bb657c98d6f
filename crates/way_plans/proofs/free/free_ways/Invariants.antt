use Rattle.std.proofs.Common.{◌≡◌, ◌<◌, ℕ, false, length, get_or}
use Rattle.way_plans.specs.Plans.{is_free}
use Rattle.way_plans.proofs.free.free_ways.Given as goal

abbrev pub invariant-loop-way : goal.invariant-loop-way
invariant-loop-way l = record {
  all : length l.free ≡ 32;
  each : (k : ℕ) → k < l.way → get_or l.free k false ≡ is_free l.tree.machine l.region k;
}
