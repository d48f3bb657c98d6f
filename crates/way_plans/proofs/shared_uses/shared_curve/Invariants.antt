use Rattle.std.proofs.Common.{◌≡◌, ◌≤◌, ◌*◌, ◌^◌}
use Rattle.std.specs.List.{flat_map, range_with_len}
use Rattle.machine.specs.Slices.{slice_number}
use Rattle.run_law.specs.Journals.{slice_at}
use Rattle.way_plans.specs.Comparisons.{shared_in}
use Rattle.way_curve.specs.IsCurve.{IsItemCurve}
use Rattle.way_plans.proofs.shared_uses.shared_curve.Given as goal

abbrev pub invariant-loop-slice : goal.invariant-loop-slice
invariant-loop-slice l = record {
  sets : l.curve.sets ≡ l.script.machine.sets;
  few : l.curve.uses ≤ l.slice * 2 ^ 32;
  is : IsItemCurve l.curve (flat_map (λ slice. shared_in l.groups (slice_at l.journals (slice_number l.script.machine l.domain slice))) (range_with_len 0 l.slice));
}
