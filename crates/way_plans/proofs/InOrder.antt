-- A division in order is one in any order.
use Rattle.std.proofs.Common.{◌≡◌, ℕ, ◌<◌, ◌≤◌, ◌⊎◌, Bool, true, false, List, [], ◌∷◌, inl, inr, Option, Some, None, IfSome, IsTrue, refl, sym, subst, arith}
use Rattle.std.specs.Prelude.{All, ◌↔◌, option_map}
use Rattle.std.specs.declared.alloc.Global.{Global}
use Rattle.std.specs.declared.vec.Vec.{Vec}
use Rattle.std.proofs.Math.Dec.{leb}
use Rattle.std.proofs.lemmas.Bool.Decides.{leb_tells}
use Rattle.std.proofs.lemmas.List.Elements.{All-cons, All-nil}
use Rattle.std.proofs.lemmas.List.Kept.{AllPairs-cons}
use Rattle.way_plans.specs.AnyOrder.{AreApart, IsBestInAnyOrder, IsDivisionInAnyOrder}
use Rattle.way_plans.specs.Divisions.{IsDivision, IsSpan, end, misses_of}
use Rattle.way_plans.specs.Orders.{IsBestIfAnyIn, order_of}
use Rattle.way_plans.specs.Runs.{runs_of, states_of}
use Rattle.way_plans.specs.Values.{spans_of}
use Rattle.way_plans.specs.declared.division_limits.TheConstants.{MOST_STATES}
use Rattle.way_plans.specs.declared.order.Order.TheVariants.{Any}
use Rattle.way_plans.specs.declared.span.Span.{Span}

-- its spans begin where they may
begins : (free : List Bool) (least from : ℕ) (groups : List (List ℕ)) (spans : List Span) → IsDivision free least from groups spans → All (λ (span : Span). from ≤ span.first) spans
begins free least from [] [] is = All-nil (λ (span : Span). from ≤ span.first)
begins free least from [] (span ∷ spans) is = absurd is
begins free least from (group ∷ groups) [] is = absurd is
begins free least from (group ∷ groups) (span ∷ spans) is =
    let rest = begins free least (end span) groups spans is.1 in
    All-cons (λ (s : Span). from ≤ s.first) span spans is.0.above (λ k d within. let later = rest k d within in omega (arith, is.0.above, later))

pub IsDivision-in_any_order : (free : List Bool) (least from : ℕ) (groups : List (List ℕ)) (spans : List Span) → IsDivision free least from groups spans → IsDivisionInAnyOrder free least groups spans
IsDivision-in_any_order free least from [] [] is = record { all = refl; each = All-nil (IsSpan free least 0); apart = λ i j d lt within. absurd (omega (arith, within)) }
IsDivision-in_any_order free least from [] (span ∷ spans) is = absurd is
IsDivision-in_any_order free least from (group ∷ groups) [] is = absurd is
IsDivision-in_any_order free least from (group ∷ groups) (span ∷ spans) is =
    let rest = IsDivision-in_any_order free least (end span) groups spans is.1 in
    record {
      all = omega (arith, rest.all);
      each = All-cons (IsSpan free least 0) span spans (record { above = omega arith; enough = is.0.enough; free_ways = is.0.free_ways }) rest.each;
      apart = AllPairs-cons AreApart span spans (λ k d within. inl (begins free least (end span) groups spans is.1 k d within)) rest.apart;
    }

-- the best in order is the best in any order where the best in any order has no fewer misses
pub IsBestInAnyOrder-from : (free : List Bool) (least : ℕ) (groups : List (List ℕ)) (spans best : List Span) → IsDivision free least 0 groups spans → IsBestInAnyOrder free least groups best
    → misses_of groups spans ≤ misses_of groups best → IsBestInAnyOrder free least groups spans
IsBestInAnyOrder-from free least groups spans best is best_is le = record {
  division = IsDivision-in_any_order free least 0 groups spans is;
  best = λ others other. let fewest : misses_of groups best ≤ misses_of groups others = best_is.best others other in omega (arith, le, fewest);
}

-- ---- what the code asks

-- every order is tried where the states are few
pub is-any : (free : List Bool) (few : Bool) → IsTrue few ↔ (states_of (runs_of free) ≤ MOST_STATES) → few ≡ true → order_of free ≡ Any
is-any free false tells is = absurd cc
is-any free true tells is = by (leb_tells (states_of (runs_of free)) MOST_STATES)
  where
    by : ((leb (states_of (runs_of free)) MOST_STATES ≡ true) × (states_of (runs_of free) ≤ MOST_STATES)) ⊎ ((leb (states_of (runs_of free)) MOST_STATES ≡ false) × (MOST_STATES < states_of (runs_of free)))
        → order_of free ≡ Any
    by (inl within) = rw within.0 refl
    by (inr past) = let within : states_of (runs_of free) ≤ MOST_STATES = tells.0 refl in absurd (omega (arith, within, past.1))

-- the best in any order, if there is one, is the best in the orders that are tried
pub IsBestIfAnyIn-any : (free : List Bool) (least : ℕ) (groups : List (List ℕ)) (any best : Option (Vec Span Global)) → order_of free ≡ Any
    → IfSome best (λ spans. IsBestInAnyOrder free least groups spans.items) → (best ≡ None → any ≡ None) → (any ≡ None → (spans : List Span) → IsDivisionInAnyOrder free least groups spans → ⊥)
    → IsBestIfAnyIn (order_of free) free least groups (option_map spans_of best)
IsBestIfAnyIn-any free least groups any None is best same none = subst (λ o. IsBestIfAnyIn o free least groups None) (sym is) (none (same refl))
IsBestIfAnyIn-any free least groups any (Some spans) is best same none = subst (λ o. IsBestIfAnyIn o free least groups (Some spans.items)) (sym is) best
