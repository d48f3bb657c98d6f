-- A new group, and what is against it.
use Rattle.std.proofs.Common.{◌≡◌, ℕ, ◌^◌, ◌<◌, ◌≤◌, Bool, true, false, List, [], ◌∷◌, ◌++◌, length, find, Option, Some, None, is_none, is_some, IfSome, refl, sym, ap, ◌∙◌, arith}
use Rattle.std.specs.List.{range_with_len}
use Rattle.std.specs.Option.{option_map, option_or}
use Rattle.std.proofs.lemmas.List.{length-append}
use Rattle.cbm.specs.Masks.{ways_of}
use Rattle.cbm.specs.declared.geometry.Geometry.{Geometry}
use Rattle.machine.specs.declared.parameters.Parameters.{Parameters}
use Rattle.mode_rules.specs.StartingWays.{initial_ways}
use Rattle.mode_rules.specs.declared.domain_use.DomainUse.{DomainUse}
use Rattle.pair_law.proofs.laws.Bounds.{length-groups}
use Rattle.pair_law.proofs.laws.Steps.{next-sound}
use Rattle.pair_law.specs.Others.{Place, free_class, full_place, initial_mask, places_on, used_in}
use Rattle.pair_law.specs.Sound.{IsSound}
use Rattle.pair_law.specs.State.{PairState, group_named}
use Rattle.pair_law.specs.Steps.{next, refusal}
use Rattle.pair_law.specs.commands.Mkdir as mkdir
use Rattle.pair_law.specs.commands.Mkdir.{new_group}
use Rattle.pair_text.specs.Values.{AreMachines, Machines, class_count, classes_of, side_machine}
use Rattle.pair_text.specs.declared.op.PairOp.TheVariants as ops
use Rattle.pair_text.specs.declared.side.Side.{Side}
use Rattle.pair_text.specs.declared.side.Side.TheVariants.{First, Second}
use Rattle.lists.proofs.RangeTests.{find-least, find-none}
use Rattle.pair_tree.proofs.Ranges.{find-append, find-mapped}
use Rattle.rc_base.specs.declared.replies.Why.TheVariants.{Exists, NoSpace, OutOfClosids}
use Rattle.tree_law.proofs.laws.WayMasks.{mask_of-ways_of}
use Rattle.tree_law.specs.Refusals.{plain}
use Rattle.tree_law.specs.Space.{geometry_of, mask_of}

-- ---- masks

-- a mask that was found is the mask of the ways that were found
option_map-mask_of : (found : Option ℕ) (ways : Option (List ℕ)) → IfSome found (λ mask. mask < 2 ^ 32) → option_map ways_of found ≡ ways → found ≡ option_map mask_of ways
option_map-mask_of None ways small is = ap (option_map mask_of) is
option_map-mask_of (Some mask) ways small is = ap Some (sym (mask_of-ways_of mask (omega arith))) ∙ ap (option_map mask_of) is

module _ (m : Machines) (s : PairState) where
  -- the mask of a new group, by what was found
  pub initial_mask-found : (place : Place) (g : Geometry) (used : DomainUse) (found : Option ℕ) → g ≡ geometry_of (side_machine m place.side) → used ≡ used_in m s None place
      → IfSome found (λ mask. mask < 2 ^ 32) → option_map ways_of found ≡ initial_ways g used → found ≡ initial_mask m s place
  initial_mask-found place g used found is_g is_used small is =
      option_map-mask_of found (initial_ways (geometry_of (side_machine m place.side)) (used_in m s None place)) small (rw (is_g, is_used) at is)

  -- whether a domain has no space
  abbrev is_full : Place → Bool
  is_full place = is_none (initial_mask m s place)

  -- no domain of a side is full
  pub find-full_none : (side : Side) → ((d : ℕ) → d < (side_machine m side).domains → is_none (initial_mask m s (record { side = side; domain = d })) ≡ false) → find is_full (places_on m side) ≡ None
  find-full_none side each =
      find-mapped is_full (λ (d : ℕ). record { side = side; domain = d }) (range_with_len 0 (side_machine m side).domains)
      ∙ ap (option_map (λ (d : ℕ). record { side = side; domain = d })) (find-none (λ d. is_none (initial_mask m s (record { side = side; domain = d }))) (side_machine m side).domains each)

  -- this one is the first that is
  pub find-full : (side : Side) (d : ℕ) → d < (side_machine m side).domains → ((k : ℕ) → k < d → is_none (initial_mask m s (record { side = side; domain = k })) ≡ false) → is_none (initial_mask m s (record { side = side; domain = d })) ≡ true
      → find is_full (places_on m side) ≡ Some (record { side = side; domain = d })
  find-full side d lt lower full =
      find-mapped is_full (λ (d : ℕ). record { side = side; domain = d }) (range_with_len 0 (side_machine m side).domains)
      ∙ ap (option_map (λ (d : ℕ). record { side = side; domain = d })) (find-least (λ d. is_none (initial_mask m s (record { side = side; domain = d }))) (side_machine m side).domains d lt lower full)

  -- ---- what is against a new group

  pub refusal-exists : (name : List ℕ) → is_some (group_named s (Some name)) ≡ true → mkdir.refusal m s name ≡ Some (plain Exists)
  unfolding mkdir.refusal
  refusal-exists name is = rw is refl

  module _ (name : List ℕ) (new : is_some (group_named s (Some name)) ≡ false) where
    pub refusal-no_class : free_class m s ≡ None → mkdir.refusal m s name ≡ Some (plain OutOfClosids)
    unfolding mkdir.refusal
    refusal-no_class none = rw (new, none) refl

    module _ (class : ℕ) (free : free_class m s ≡ Some class) where
      refusal-full : (place : Place) → full_place m s ≡ Some place → mkdir.refusal m s name ≡ Some (record { why = NoSpace; arg = place.domain })
      unfolding mkdir.refusal
      refusal-full place is = rw (new, free, is) (rw is refl)

      -- a domain of the first side is full
      pub refusal-first : (d : ℕ) → find is_full (places_on m First) ≡ Some (record { side = First; domain = d }) → mkdir.refusal m s name ≡ Some (record { why = NoSpace; arg = d })
      refusal-first d is = refusal-full (record { side = First; domain = d }) (find-append is_full (places_on m First) (places_on m Second) ∙ ap (λ o. option_or o (find is_full (places_on m Second))) is)

      -- none of these, but one of the second
      pub refusal-second : (d : ℕ) → find is_full (places_on m First) ≡ None → find is_full (places_on m Second) ≡ Some (record { side = Second; domain = d }) → mkdir.refusal m s name ≡ Some (record { why = NoSpace; arg = d })
      refusal-second d none is = refusal-full (record { side = Second; domain = d }) (find-append is_full (places_on m First) (places_on m Second) ∙ ap (λ o. option_or o (find is_full (places_on m Second))) none ∙ is)

      -- none of either
      pub refusal-space : find is_full (places_on m First) ≡ None → find is_full (places_on m Second) ≡ None → mkdir.refusal m s name ≡ None
      unfolding mkdir.refusal
      refusal-space none other = rw (new, free, find-append is_full (places_on m First) (places_on m Second) ∙ ap (λ o. option_or o (find is_full (places_on m Second))) none ∙ other) refl

  -- ---- the room for it

  -- where a group may be made, there are fewer than classes
  pub length-made : AreMachines m → IsSound m s → (name : List ℕ) → mkdir.refusal m s name ≡ None → length s.groups < class_count m
  unfolding next refusal mkdir.accepted
  length-made are sound name accepted =
      let new = next-sound m s (ops.Mkdir name) are sound in
      let few : length (next m s (ops.Mkdir name)).state.groups ≤ class_count m = length-groups m (next m s (ops.Mkdir name)).state new in
      let more : length (s.groups ++ new_group m s name ∷ []) ≤ class_count m = rw accepted at few in
      omega (arith, more, length-append s.groups (new_group m s name ∷ []))

-- there are 64 classes at most
classes_of-few : (classes : ℕ) (l2 : Option Parameters) → classes ≤ 64 → classes_of classes l2 ≤ 64
classes_of-few classes None few = omega arith
classes_of-few classes (Some l2) few = few

pub class_count-few : (m : Machines) → AreMachines m → class_count m ≤ 64
class_count-few m are = classes_of-few m.machine.classes m.l2 are.in_range.class_limit
