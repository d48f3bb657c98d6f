-- The plan of a script that was played, and the text that tells it.
use Rattle.std.specs.Prelude.{◌≡◌, ℕ, ◌+◌, Bool, List, [], ◌∷◌, length, Option}
use Rattle.way_plans.specs.ComparedTexts.{compared_text}
use Rattle.way_plans.specs.Comparisons.{comparisons_in}
use Rattle.way_plans.specs.Orders.{IsBestIfAnyIn, order_of}
use Rattle.way_plans.specs.PlanTexts.{DomainPart, plan_text}
use Rattle.run_law.specs.Journals.{JournalsValue}
use Rattle.run_law.specs.TreeHistory.{tree_after}
use Rattle.script_ops.specs.Values.{ScriptValue}
use Rattle.way_plans.specs.declared.order.Order.{Order}
use Rattle.way_plans.specs.declared.span.Span.{Span}
use Rattle.way_plans.specs.Plans.{free_ways, misses_in, planned}

-- in which orders the groups that a script leaves are tried in a domain
abbrev pub order_in : ScriptValue → JournalsValue → ℕ → Order
order_in script j domain = order_of (free_ways script.machine (tree_after script j.tree) domain)

-- The ways of a domain for the groups that a script leaves, such that no other division has fewer misses in all, in whatever order the
-- groups lie, or where not all orders are tried in order of creation; None where there is no division.
abbrev pub IsBestIfAny : ScriptValue → JournalsValue → ℕ → Option (List Span) → Type 0
IsBestIfAny script j domain spans =
    IsBestIfAnyIn (order_in script j domain) (free_ways script.machine (tree_after script j.tree) domain) script.machine.min
    (misses_in script j domain (planned (tree_after script j.tree))) spans

-- What is planned for a domain.
pub record IsPart (script : ScriptValue) (j : JournalsValue) (domain : ℕ) (part : DomainPart) : Type 0 where
  pub misses : part.misses ≡ misses_in script j domain (planned (tree_after script j.tree))
  pub division : IsBestIfAny script j domain part.spans
  pub order : part.order ≡ order_in script j domain

-- the same of each of these domains, numbered from this one
abbrev pub ArePartsFrom : ScriptValue → JournalsValue → ℕ → List DomainPart → Type 0
ArePartsFrom script j domain [] = Unit {0}
ArePartsFrom script j domain (part ∷ parts) = IsPart script j domain part × ArePartsFrom script j (domain + 1) parts

-- The plan of a script has a part for each domain.
pub record AreParts (script : ScriptValue) (j : JournalsValue) (parts : List DomainPart) : Type 0 where
  pub all : length parts ≡ script.machine.domains
  pub each : ArePartsFrom script j 0 parts

-- The text tells a plan of the script, with the curves of all groups or of those that have uses.
pub record TellsPlan (only_used : Bool) (script : ScriptValue) (j : JournalsValue) (text : List ℕ) : Type 0 where
  pub parts : List DomainPart
  pub are_parts : AreParts script j parts
  pub is_text : text ≡ plan_text only_used script.names script.machine.ways (planned (tree_after script j.tree)) parts

-- The text tells a plan of the script and, after the plan of each domain, what that is compared with.
pub record TellsComparedPlan (only_used : Bool) (script : ScriptValue) (j : JournalsValue) (text : List ℕ) : Type 0 where
  pub parts : List DomainPart
  pub are_parts : AreParts script j parts
  pub is_text : text ≡ compared_text only_used script.names script.machine.ways (planned (tree_after script j.tree)) parts (comparisons_in script j (planned (tree_after script j.tree)))
