use Rattle.std.proofs.Common.{◌≡◌, ℕ, ◌-◌, ◌≤◌, false, true, List, not, is_some, ap, subst, sym, ◌∙◌, arith}
use Rattle.way_plans.specs.Placings.{AreStateRows, at}
use Rattle.way_plans.specs.Runs.{runs_of, states_of}
use Rattle.way_plans.specs.declared.span.Span.{Span}
use Rattle.way_plans.proofs.Lefts.{states_of-some}
use Rattle.way_plans.proofs.BestOrders.{best-division-in-any-order, no-division-in-any-order}
use Rattle.way_plans.proofs.any_order.divide_in_any_order.Goals as goal

pub overflow_sub-last : goal.overflow_sub-last
overflow_sub-last c =
    let free = c.args.free.now in
    let runs : c.deref.result.now ≡ runs_of free = c.deref.ensures.value ∙ c.in_ok-runs.ensures.runs in
    let states : c.states_of-states.result ≡ states_of (runs_of free) = c.states_of-states.ensures.few (subst (λ (r : List Span). states_of r ≤ 16384) (sym runs) c.requires.states) ∙ ap states_of runs in
    omega (arith, states, states_of-some (runs_of free))

pub returns-then-is_none-clause-none : goal.returns-then-is_none-clause-none
returns-then-is_none-clause-none c =
    let free = c.args.free.now in
    let least = c.args.least in
    let groups = c.args.groups.now in
    let rows = c.in_ok-rows.rows.items in
    let last : ℕ = c.states_of-states.result - 1 in
    let runs : c.deref.result.now ≡ runs_of free = c.deref.ensures.value ∙ c.in_ok-runs.ensures.runs in
    let runs_again : c.deref-2.result.now ≡ runs_of free = c.deref-2.ensures.value ∙ c.in_ok-runs.ensures.runs in
    let states : c.states_of-states.result ≡ states_of (runs_of free) = c.states_of-states.ensures.few (subst (λ (r : List Span). states_of r ≤ 16384) (sym runs) c.requires.states) ∙ ap states_of runs in
    let none : is_some (at c.index.result.now last) ≡ false = ap is_some (sym c.best.ensures) ∙ (c.is_none.ensures ∙ ap not c.if-is_none.true) in
    λ _. no-division-in-any-order free least c.requires.least groups rows (subst (λ (r : List Span). AreStateRows least r groups rows) runs_again c.in_ok-rows.ensures) last
    (ap (λ (n : ℕ). n - 1) states) c.index.result.now c.index.ensures none

pub returns-clause-best : goal.returns-clause-best
returns-clause-best c =
    let free = c.args.free.now in
    let least = c.args.least in
    let groups = c.args.groups.now in
    let rows = c.in_ok-rows.rows.items in
    let last : ℕ = c.states_of-states.result - 1 in
    let runs : c.deref.result.now ≡ runs_of free = c.deref.ensures.value ∙ c.in_ok-runs.ensures.runs in
    let runs_again : c.deref-2.result.now ≡ runs_of free = c.deref-2.ensures.value ∙ c.in_ok-runs.ensures.runs in
    let states : c.states_of-states.result ≡ states_of (runs_of free) = c.states_of-states.ensures.few (subst (λ (r : List Span). states_of r ≤ 16384) (sym runs) c.requires.states) ∙ ap states_of runs in
    let any : is_some (at c.index.result.now last) ≡ true = ap is_some (sym c.best.ensures) ∙ (c.is_none.ensures ∙ ap not c.if-is_none.false) in
    rw (c.in_ok-push_spans.ensures, c.new-spans.ensures.items, c.deref-3.ensures.value)
    (best-division-in-any-order free least c.requires.least groups rows (subst (λ (r : List Span). AreStateRows least r groups rows) runs_again c.in_ok-rows.ensures) last
    (ap (λ (n : ℕ). n - 1) states) c.index.result.now c.index.ensures any)
