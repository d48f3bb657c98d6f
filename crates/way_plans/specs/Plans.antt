-- How the ways of a domain are best divided among the groups that a script leaves.
use Rattle.std.specs.Prelude.{ℕ, ◌-◌, Bool, false, not, ◌&&◌, nat_lt, List, map, filter, slice_index_or, Option, Some, None}
use Rattle.std.specs.List.{range_with_len}
use Rattle.cbm.specs.Masks.{has_way}
use Rattle.way_plans.specs.GroupItems.{items_of}
use Rattle.group_tree.specs.declared.group.Group.{Group}
use Rattle.machine.specs.declared.parameters.Parameters.{Parameters}
use Rattle.pseudo_lock.specs.declared.region.Region.{Region}
use Rattle.run_law.specs.Journals.{JournalsValue}
use Rattle.run_law.specs.TreeHistory.{tree_after}
use Rattle.script_ops.specs.Values.{ScriptValue}
use Rattle.tree_law.specs.Counted.{is_counted}
use Rattle.tree_law.specs.State.{State}
use Rattle.private_lru.specs.declared.item.Item.{Item}
use Rattle.way_curve.specs.ItemCurves.{item_hits_of, uses_in}
use Rattle.way_plans.specs.AnyOrder.{IsDivisionInAnyOrder}
use Rattle.way_plans.specs.Divisions.{IsDivision}
use Rattle.way_plans.specs.declared.span.Span.{Span}

-- the groups that get ways: the control groups that are shareable or exclusive, in order of creation and so of their gids
abbrev pub planned : State → List Group
planned s = filter is_counted s.groups

-- whether a region has this way
abbrev pub is_locked : Option Region → ℕ → Bool
is_locked None way = false
is_locked (Some r) way = has_way r.mask way

-- whether a group may get this way: the machine has it, no other hardware uses it, and no region of the domain has it
abbrev pub is_free : Parameters → Option Region → ℕ → Bool
is_free m region way = nat_lt way m.ways && (not (has_way m.shareable way) && not (is_locked region way))

-- the same of each of 32 ways
abbrev pub free_ways : Parameters → State → ℕ → List Bool
free_ways m s domain = map (is_free m (slice_index_or s.regions domain None)) (range_with_len 0 32)

-- how many of the uses among these items miss in private caches, one for each set, of so many ways
abbrev pub misses_with : ℕ → List Item → ℕ → ℕ
misses_with sets items ways = uses_in items - item_hits_of sets ways items

-- the same with each number of ways from 0 to 32
abbrev pub misses_of : ℕ → List Item → List ℕ
misses_of sets items = map (misses_with sets items) (range_with_len 0 33)

-- what each of some groups misses of its uses in a domain
abbrev pub misses_in : ScriptValue → JournalsValue → ℕ → List Group → List (List ℕ)
misses_in script j domain groups = map (λ (g : Group). misses_of script.machine.sets (items_of script.machine j domain g.gid.0)) groups

-- (For proofs.) The groups that a script leaves have these ways of a domain: in order of their gids, each at least as many side by side
-- as a mask must have, none of two groups, none of other hardware and none of a region.
abbrev pub IsPlan : ScriptValue → JournalsValue → ℕ → List Span → Type 0
IsPlan script j domain spans =
    IsDivision (free_ways script.machine (tree_after script j.tree) domain) script.machine.min 0 (misses_in script j domain (planned (tree_after script j.tree))) spans

-- (For proofs.) The same in any order of the groups.
abbrev pub IsPlanInAnyOrder : ScriptValue → JournalsValue → ℕ → List Span → Type 0
IsPlanInAnyOrder script j domain spans =
    IsDivisionInAnyOrder (free_ways script.machine (tree_after script j.tree) domain) script.machine.min (misses_in script j domain (planned (tree_after script j.tree))) spans
