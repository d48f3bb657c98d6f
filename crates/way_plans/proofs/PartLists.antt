-- Parts of plans.
use Rattle.std.proofs.Common.{◌≡◌, ℕ, ◌+◌, ◌-◌, ◌≤◌, Bool, false, List, [], ◌∷◌, ◌++◌, get_or, length, Option, Some, None, sym, subst, ◌∙◌, arith, true≢false, inl, inr}
use Rattle.std.specs.Prelude.{All, IfSome, option_map}
use Rattle.std.specs.declared.alloc.Global.{Global}
use Rattle.std.specs.declared.vec.Vec.{Vec}
use Rattle.std.proofs.lemmas.Bool.{cases_lt}
use Rattle.std.proofs.lemmas.List.{get_or_past}
use Rattle.std.proofs.lemmas.List.FromFn.{length-map-range_with_len}
use Rattle.std.proofs.lemmas.List.Elements.{All-cons, All-nil}
use Rattle.way_plans.specs.Orders.{IsBestIfAnyIn}
use Rattle.way_plans.specs.Planned.{ArePartsFrom, IsBestIfAny, IsPart, order_in}
use Rattle.way_plans.specs.PlanTexts.{DomainPart}
use Rattle.way_plans.specs.Values.{spans_of}
use Rattle.pseudo_lock.specs.Regions.{region_in}
use Rattle.run_law.specs.Journals.{JournalsValue}
use Rattle.run_law.specs.TreeHistory.{tree_after}
use Rattle.script_ops.specs.Values.{ScriptValue}
use Rattle.way_plans.specs.Divisions.{IsDivision, IsSpan, end}
use Rattle.way_plans.specs.declared.order.Order.{Order}
use Rattle.way_plans.specs.declared.order.Order.TheVariants.{Any, Creation}
use Rattle.way_plans.specs.declared.span.Span.{Span}
use Rattle.way_plans.specs.Plans.{free_ways, is_free, misses_in, planned}

-- one part more at the end
pub ArePartsFrom-push : (script : ScriptValue) (j : JournalsValue) (from : ℕ) (parts : List DomainPart) (part : DomainPart) → ArePartsFrom script j from parts → IsPart script j (from + length parts) part
    → ArePartsFrom script j from (parts ++ part ∷ [])
ArePartsFrom-push script j from [] part are is = (subst (λ d. IsPart script j d part) (omega arith) is, tt)
ArePartsFrom-push script j from (p ∷ ps) part are is = (are.0, ArePartsFrom-push script j (from + 1) ps part are.1 (subst (λ d. IsPart script j d part) (omega arith) is))

-- a span that a group may get ends within the ways
pub end-within : (free : List Bool) (least from : ℕ) (span : Span) → 1 ≤ least → IsSpan free least from span → end span ≤ length free
end-within free least from span some is = elim (cases_lt (length free) (end span)) [
  | inl past ↦
      let last : ℕ = end span - 1 in
      let free_last = is.free_ways last (omega (arith, some, is.enough)) (omega (arith, some, is.enough)) in
      let none = get_or_past free last false (omega (arith, past)) in
      absurd (true≢false (sym free_last ∙ none))
  | inr within ↦ omega (arith, within)
]

-- and so do all of a division
pub All-within : (free : List Bool) (least from : ℕ) (groups : List (List ℕ)) (spans : List Span) → 1 ≤ least → IsDivision free least from groups spans → All (λ (span : Span). end span ≤ length free) spans
All-within free least from [] [] some is = All-nil (λ (span : Span). end span ≤ length free)
All-within free least from [] (span ∷ spans) some is = absurd is
All-within free least from (group ∷ groups) [] some is = absurd is
All-within free least from (group ∷ groups) (span ∷ spans) some is =
    All-cons (λ (span : Span). end span ≤ length free) span spans (end-within free least from span some is.0) (All-within free least (end span) groups spans some is.1)

-- in whatever order
within-best : (order : Order) (free : List Bool) (least : ℕ) (groups : List (List ℕ)) (spans : List Span) → 1 ≤ least → IsBestIfAnyIn order free least groups (Some spans)
    → All (λ (span : Span). end span ≤ length free) spans
within-best Any free least groups spans some best = λ k d within. end-within free least 0 (get_or spans k d) some (best.division.each k d within)
within-best Creation free least groups spans some best = All-within free least 0 groups spans some best.division

-- of the ways of a plan
pub within-plan : (script : ScriptValue) (j : JournalsValue) (domain : ℕ) (o : Option (Vec Span Global)) → 1 ≤ script.machine.min → IsBestIfAny script j domain (option_map spans_of o)
    → IfSome o (λ spans. All (λ (span : Span). end span ≤ 32) spans.items)
within-plan script j domain None some best = tt
within-plan script j domain (Some spans) some best =
    let free = free_ways script.machine (tree_after script j.tree) domain in
    let all : length free ≡ 32 = length-map-range_with_len (is_free script.machine (region_in (tree_after script j.tree).regions domain)) 0 32 in
    subst (λ (n : ℕ). All (λ (span : Span). end span ≤ n) spans.items) all (within-best (order_in script j domain) free script.machine.min (misses_in script j domain (planned (tree_after script j.tree))) spans.items some best)
