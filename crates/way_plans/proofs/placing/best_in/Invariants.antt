use Rattle.std.proofs.Common.{ℕ, ◌-◌, ◌*◌, ◌<◌, ◌≤◌, IfSome}
use Rattle.way_plans.specs.Placings.{IsNoFewer, IsPlacedIn, lowest_of, placed_at}
use Rattle.way_plans.proofs.placing.best_in.Given as goal

abbrev pub invariant-loop-count : goal.invariant-loop-count
invariant-loop-count l = (IfSome l.best (IsPlacedIn l.group.least l.group.misses.now l.group.next.now l.group.state l.stride l.fn.run l.left))
    × ((count : ℕ) → l.group.least ≤ count → count ≤ l.left → count < l.count → IsNoFewer (placed_at l.group.misses.now l.group.next.now (l.group.state - count * l.stride) (lowest_of l.fn.run l.left count)) l.best)
