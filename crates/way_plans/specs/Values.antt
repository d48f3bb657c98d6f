-- What contracts see of plans.
-- (For functions and proofs: no promise of the program stands on it.)
use Rattle.std.specs.Prelude.{ℕ, ◌^◌, ◌≤◌, All, IfSome, List, length, map, option_map}
use Rattle.std.specs.declared.alloc.Global.{Global}
use Rattle.std.specs.declared.vec.Vec.{Vec}
use Rattle.group_tree.specs.declared.group.Group.{Group}
use Rattle.way_plans.specs.PlanTexts.{DomainPart}
use Rattle.tree_core.specs.Named.{AreNamed}
use Rattle.way_plans.specs.Divisions.{end}
use Rattle.way_plans.specs.declared.span.Span.{Span}
use Rattle.way_plans.specs.declared.domain_plan.DomainPlan.{DomainPlan}

-- the spans of a list
abbrev pub spans_of : Vec Span Global → List Span
spans_of spans = spans.items

-- what is planned for a domain
abbrev pub part_of : DomainPlan → DomainPart
part_of plan = record { misses = plan.misses.items; spans = option_map spans_of plan.spans; order = plan.order }

-- the same of several
abbrev pub parts_of : List DomainPlan → List DomainPart
parts_of plans = map part_of plans

-- Few groups, few misses of each, and ways of a cache.
pub record IsSmall (plan : DomainPlan) : Type 0 where
  pub few_groups : length plan.misses.items ≤ 64
  pub few_misses : All (All (λ n. n ≤ 2 ^ 48)) plan.misses.items
  pub within : IfSome plan.spans (λ spans. All (λ span. end span ≤ 32) spans.items)

-- What a plan is printed by: its groups have names of the script, and it is small.
pub record IsPrintable (names : List (List ℕ)) (groups : List Group) (plans : List DomainPlan) : Type 0 where
  pub named : AreNamed names groups
  pub few : length plans ≤ 8
  pub small : All IsSmall plans
