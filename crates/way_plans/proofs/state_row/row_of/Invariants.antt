use Rattle.std.proofs.Common.{◌≡◌, ℕ, ◌<◌, length}
use Rattle.way_plans.specs.Placings.{IsBestAmong, at}
use Rattle.way_plans.proofs.state_row.row_of.Given as goal

abbrev pub invariant-loop-state : goal.invariant-loop-state
invariant-loop-state l = (length l.places.items ≡ l.state)
    × ((state : ℕ) → state < l.state → IsBestAmong l.least l.group l.next state l.runs 1 state (at l.places.items state))
