-- In which orders groups lie in the divisions among which one is the best.
use Rattle.std.specs.Prelude.{ℕ, nat_le, if◌then◌else◌, Bool, List, Option, Some, None}
use Rattle.way_plans.specs.AnyOrder.{IsBestInAnyOrder, IsDivisionInAnyOrder}
use Rattle.way_plans.specs.Divisions.{IsBestDivision, IsDivision}
use Rattle.way_plans.specs.Runs.{runs_of, states_of}
use Rattle.way_plans.specs.declared.division_limits.TheConstants.{MOST_STATES}
use Rattle.way_plans.specs.declared.order.Order.{Order}
use Rattle.way_plans.specs.declared.order.Order.TheVariants.{Any, Creation}
use Rattle.way_plans.specs.declared.span.Span.{Span}

-- in every order, where the runs of free ways have few states, and else in order of creation
abbrev pub order_of : List Bool → Order
order_of free = if nat_le (states_of (runs_of free)) MOST_STATES then Any else Creation

-- The best division in these orders; None where there is no division.
abbrev pub IsBestIfAnyIn : Order → List Bool → ℕ → List (List ℕ) → Option (List Span) → Type 0
IsBestIfAnyIn Any free least groups None = (spans : List Span) → IsDivisionInAnyOrder free least groups spans → ⊥
IsBestIfAnyIn Any free least groups (Some spans) = IsBestInAnyOrder free least groups spans
IsBestIfAnyIn Creation free least groups None = (spans : List Span) → IsDivision free least 0 groups spans → ⊥
IsBestIfAnyIn Creation free least groups (Some spans) = IsBestDivision free least groups spans
