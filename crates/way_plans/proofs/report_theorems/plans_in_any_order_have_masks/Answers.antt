use Rattle.std.proofs.Common.{arith}
use Rattle.std.specs.Prelude.{slice_index_or, None}
use Rattle.run_law.specs.TreeHistory.{tree_after}
use Rattle.way_plans.specs.Plans.{free_ways, misses_in, planned}
use Rattle.way_plans.proofs.PlanMasks.{free-exists, masks-in-any-order}
use Rattle.way_plans.proofs.report_theorems.plans_in_any_order_have_masks.Goals as goal

pub returns : goal.returns
returns c = λ script j domain spans range plan.
    let m = script.machine in
    let left = tree_after script j.tree in
    masks-in-any-order m (free_ways m left domain) m.min (misses_in script j domain (planned left)) spans (free-exists m (slice_index_or left.regions domain None)) range.some_min (omega arith) range.way_limit plan
