-- The masks that a plan gives its groups.
use Rattle.std.proofs.Common.{Bool, List, None, Ok, Option, Some, [], ap, arith, false, get_or, length, refl, subst, suc, sym, true, true≢false, zero, zero-add, ℕ, ◌&&◌, ◌+◌, ◌<◌, ◌^◌, ◌∙◌, ◌∷◌, ◌≡◌, ◌≤◌}
use Rattle.std.proofs.lemmas.List.{get_or_default, length-map}
use Rattle.std.specs.Prelude.{is_some, slice_index_or}
use Rattle.cbm.specs.Masks.{overlaps}
use Rattle.cbm.specs.Validity.{checked}
use Rattle.group_tree.specs.declared.group.Group.{Group}
use Rattle.machine.specs.declared.parameters.Parameters.{Parameters}
use Rattle.path_names.specs.declared.files.FileKind.TheVariants.{Schemata as SchemataFile}
use Rattle.run_law.specs.Journals.{JournalsValue}
use Rattle.run_law.specs.TreeHistory.{tree_after}
use Rattle.schemata_text.specs.Printed.{printed}
use Rattle.schemata_text.specs.declared.assignment.Assignment.{Assignment}
use Rattle.script_ops.specs.Values.{ScriptValue}
use Rattle.script_ops.specs.declared.op.Op.{Op}
use Rattle.tree_law.specs.Sound.{IsSound}
use Rattle.tree_law.specs.Space.{geometry_of, region_mask}
use Rattle.tree_law.specs.State.{State}
use Rattle.way_plans.proofs.GivenMasks.{All-usable, IsUsable, mask-small, overlaps-region, overlaps-shareable}
use Rattle.way_plans.proofs.GivenWays.{ways_op, ways_ops}
use Rattle.way_plans.proofs.PlanMasks.{free-exists, masks-in-any-order}
use Rattle.way_plans.proofs.InOrder.{IsDivision-in_any_order}
use Rattle.way_plans.proofs.PlannedEntries.{AreGiven, entries, masks_at-entries}
use Rattle.way_plans.specs.GroupItems.{items_of}
use Rattle.way_plans.specs.Masks.{AreMasksOf, mask_of, span_at}
use Rattle.way_plans.specs.PlanCommands.{schemata_ops, write_op}
use Rattle.way_plans.specs.PlanTexts.{DomainPart, is_whole, masks_at}
use Rattle.way_plans.specs.Planned.{AreParts, ArePartsFrom, IsBestIfAny, IsPart}
use Rattle.way_plans.specs.Plans.{IsPlanInAnyOrder, free_ways, misses_in, misses_of, planned}
use Rattle.way_plans.specs.AnyOrder.{IsDivisionInAnyOrder}
use Rattle.way_plans.specs.Orders.{IsBestIfAnyIn, order_of}
use Rattle.way_plans.specs.declared.order.Order.{Order}
use Rattle.way_plans.specs.declared.order.Order.TheVariants.{Any, Creation}
use Rattle.way_plans.specs.declared.span.Span.{Span}

-- no part
abbrev pub nothing : DomainPart
nothing = record { misses = []; spans = None; order = Creation }

-- the mask that a plan gives a place in a domain
abbrev pub planned_mask : List DomainPart → ℕ → ℕ → ℕ
planned_mask parts domain place = mask_of (span_at (get_or parts domain nothing).spans place)

-- the part of a domain
IsPart-at : (script : ScriptValue) (j : JournalsValue) (from : ℕ) (parts : List DomainPart) → ArePartsFrom script j from parts → (k : ℕ) (d : DomainPart) → k < length parts → IsPart script j (from + k) (get_or parts k d)
IsPart-at script j from [] are k d within = absurd (omega (arith, within))
IsPart-at script j from (part ∷ parts) are zero d within = (let here : from + 0 ≡ from = omega arith in subst (λ (n : ℕ). IsPart script j n part) (sym here) are.0)
IsPart-at script j from (part ∷ parts) are (suc k) d within =
    let there : from + 1 + k ≡ from + suc k = omega arith in
    subst (λ (n : ℕ). IsPart script j n (get_or parts k d)) there (IsPart-at script j (from + 1) parts are.1 k d (omega (arith, within)))

-- each has a division where all have one
is_some-whole : (parts : List DomainPart) → is_whole parts ≡ true → (k : ℕ) (d : DomainPart) → k < length parts → is_some (get_or parts k d).spans ≡ true
is_some-whole [] whole k d within = absurd (omega (arith, within))
is_some-whole (part ∷ parts) whole zero d within = both-first (is_some part.spans) (is_whole parts) whole
  where
    both-first : (a b : Bool) → (a && b) ≡ true → a ≡ true
    both-first true b e = refl
    both-first false b e = e
is_some-whole (part ∷ parts) whole (suc k) d within = is_some-whole parts (both-second (is_some part.spans) (is_whole parts) whole) k d (omega (arith, within))
  where
    both-second : (a b : Bool) → (a && b) ≡ true → b ≡ true
    both-second true b e = e
    both-second false b e = absurd (true≢false (sym e))

-- and so its spans are a division
pub record IsDivided (script : ScriptValue) (j : JournalsValue) (domain : ℕ) (o : Option (List Span)) : Type 0 where
  pub spans : List Span
  pub are : o ≡ Some spans
  pub plan : IsPlanInAnyOrder script j domain spans

-- the best division in the orders that are tried is one in any order
division-in : (order : Order) (free : List Bool) (least : ℕ) (groups : List (List ℕ)) (spans : List Span) → IsBestIfAnyIn order free least groups (Some spans) → IsDivisionInAnyOrder free least groups spans
division-in Any free least groups spans best = best.division
division-in Creation free least groups spans best = IsDivision-in_any_order free least 0 groups spans best.division

IsDivided-some : (script : ScriptValue) (j : JournalsValue) (domain : ℕ) (o : Option (List Span)) → is_some o ≡ true → IsBestIfAny script j domain o → IsDivided script j domain o
IsDivided-some script j domain None some best = absurd (true≢false (sym some))
IsDivided-some script j domain (Some spans) some best =
    let free = free_ways script.machine (tree_after script j.tree) domain in
    record { spans = spans; are = refl; plan = division-in (order_of free) free script.machine.min (misses_in script j domain (planned (tree_after script j.tree))) spans best }

module _ (script : ScriptValue) (j : JournalsValue) (parts : List DomainPart) (are : AreParts script j parts) (whole : is_whole parts ≡ true) where
  abbrev m : Parameters
  m = script.machine

  abbrev left : State
  left = tree_after script j.tree

  abbrev groups : List Group
  groups = planned left

  divided : (domain : ℕ) → domain < m.domains → IsDivided script j domain (get_or parts domain nothing).spans
  divided domain lt =
      let within : domain < length parts = omega (arith, lt, are.all) in
      let part : IsPart script j (0 + domain) (get_or parts domain nothing) = IsPart-at script j 0 parts are.each domain nothing within in
      let here : 0 + domain ≡ domain = zero-add domain in
      IsDivided-some script j domain (get_or parts domain nothing).spans (is_some-whole parts whole domain nothing within) (subst (λ (n : ℕ). IsPart script j n (get_or parts domain nothing)) here part).division

  -- one span for each group
  length-divided : (domain : ℕ) → (d : IsDivided script j domain (get_or parts domain nothing).spans) → length d.spans ≡ length groups
  length-divided domain d = d.plan.all ∙ length-map groups (λ (g : Group). misses_of m.sets (items_of m j domain g.gid.0))

  -- a fact of the mask of a span
  of-span : (P : ℕ → Type 0) (domain place : ℕ) → (d : IsDivided script j domain (get_or parts domain nothing).spans) → P (mask_of (get_or d.spans place (record { first = 0; count = 0 }))) → P (planned_mask parts domain place)
  of-span P domain place d is = subst P (sym (ap (λ o. mask_of (span_at o place)) d.are)) is

  -- the masks are as they have to be
  pub AreGiven-planned : IsSound m left → 0 < m.min → m.ways ≤ 32 → AreGiven m left.regions (length groups) (planned_mask parts)
  AreGiven-planned sound some few = record {
    valid = λ domain place lt within. (let d = divided domain lt in
        of-span (λ n. checked (geometry_of m) n ≡ Ok n) domain place d ((masks domain d).valid place (record { first = 0; count = 0 }) (omega (arith, within, length-divided domain d))));
    small = λ domain place lt within. (let d = divided domain lt in of-span (λ n. n < 2 ^ 32) domain place d (mask-small m left domain few (get_or d.spans place (record { first = 0; count = 0 })) (usable domain d place within)));
    off_shareable = λ domain place lt within. (let d = divided domain lt in of-span (λ n. overlaps n m.shareable ≡ false) domain place d (overlaps-shareable m left domain few (get_or d.spans place (record { first = 0; count = 0 })) (usable domain d place within)));
    off_region = λ domain place lt within. (let d = divided domain lt in of-span (λ n. overlaps n (region_mask left.regions domain) ≡ false) domain place d (overlaps-region m left domain few (get_or d.spans place (record { first = 0; count = 0 })) (usable domain d place within)));
    apart = λ domain place later lt before within. (let d = divided domain lt in
        of-span (λ n. overlaps n (planned_mask parts domain later) ≡ false) domain place d (of-span (λ n. overlaps (mask_of (get_or d.spans place (record { first = 0; count = 0 }))) n ≡ false) domain later d
        ((masks domain d).apart place later (record { first = 0; count = 0 }) before (omega (arith, within, length-divided domain d)))));
  }
    where
      masks : (domain : ℕ) → (d : IsDivided script j domain (get_or parts domain nothing).spans) → AreMasksOf m d.spans
      masks domain d = masks-in-any-order m (free_ways m left domain) m.min (misses_in script j domain groups) d.spans (free-exists m (slice_index_or left.regions domain None)) some (omega arith) few d.plan

      usable : (domain : ℕ) → (d : IsDivided script j domain (get_or parts domain nothing).spans) → (place : ℕ) → place < length groups → IsUsable (free_ways m left domain) (get_or d.spans place (record { first = 0; count = 0 }))
      usable domain d place within = All-usable (free_ways m left domain) m.min (misses_in script j domain groups) d.spans some d.plan place (record { first = 0; count = 0 }) (omega (arith, within, length-divided domain d))

  -- the commands that give them
  pub schemata_ops-planned : (place : ℕ) (rest : List Group) → schemata_ops m.ways parts place rest ≡ ways_ops m (planned_mask parts) place rest
  schemata_ops-planned place [] = refl
  schemata_ops-planned place (g ∷ rest) =
      let all : masks_at place 0 parts ≡ entries (planned_mask parts) place 0 m.domains =
      masks_at-entries (planned_mask parts) place 0 parts (λ k d within. ap (λ (p : DomainPart). mask_of (span_at p.spans place)) (get_or_default parts k d nothing within) ∙ ap (λ (n : ℕ). planned_mask parts n place) (sym (zero-add k)))
      ∙ ap (entries (planned_mask parts) place 0) are.all in
      ap (λ (es : List Assignment). write_op g SchemataFile (printed m.ways es) ∷ schemata_ops m.ways parts (place + 1) rest) all
      ∙ ap (λ (ops : List Op). ways_op m (planned_mask parts) place g ∷ ops) (schemata_ops-planned (place + 1) rest)
