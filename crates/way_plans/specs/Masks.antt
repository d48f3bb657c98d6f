-- The mask of ways side by side.
use Rattle.std.specs.Prelude.{◌≡◌, ℕ, ◌+◌, ◌-◌, ◌^◌, false, get_or, All, AllPairs, Ok, Option, Some, None, List}
use Rattle.cbm.specs.Masks.{overlaps}
use Rattle.cbm.specs.Validity.{checked}
use Rattle.machine.specs.Ranges.{InRange}
use Rattle.machine.specs.declared.parameters.Parameters.{Parameters}
use Rattle.run_law.specs.Journals.{JournalsValue}
use Rattle.script_ops.specs.Values.{ScriptValue}
use Rattle.tree_law.specs.Space.{geometry_of}
use Rattle.way_plans.specs.Plans.{IsPlan, IsPlanInAnyOrder}
use Rattle.way_plans.specs.declared.span.Span.{Span}

-- the mask that has just the ways of a span: bit w governs way w
abbrev pub mask_of : Span → ℕ
mask_of span = 2 ^ (span.first + span.count) - 2 ^ span.first

-- the span of the group at this place, and one of no ways where there is none
abbrev pub span_at : Option (List Span) → ℕ → Span
span_at None place = record { first = 0; count = 0 }
span_at (Some spans) place = get_or spans place (record { first = 0; count = 0 })

-- ---- what holds of the masks of a plan

-- (For proofs.) Each is valid on the machine, and no two have a way in common.
pub record AreMasksOf (m : Parameters) (spans : List Span) : Type 0 where
  pub valid : All (λ (span : Span). checked (geometry_of m) (mask_of span) ≡ Ok (mask_of span)) spans
  pub apart : AllPairs (λ (a b : Span). overlaps (mask_of a) (mask_of b) ≡ false) spans

-- (For proofs.) So it is of every plan of a domain.
abbrev pub PlansHaveMasks : Type 0
PlansHaveMasks = (script : ScriptValue) (j : JournalsValue) (domain : ℕ) (spans : List Span) → InRange script.machine → IsPlan script j domain spans → AreMasksOf script.machine spans

-- (For proofs.) And of every plan in any order.
abbrev pub PlansInAnyOrderHaveMasks : Type 0
PlansInAnyOrderHaveMasks = (script : ScriptValue) (j : JournalsValue) (domain : ℕ) (spans : List Span) → InRange script.machine → IsPlanInAnyOrder script j domain spans → AreMasksOf script.machine spans
