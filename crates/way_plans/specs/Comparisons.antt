-- What a plan is compared with: how many of the same uses missed as the script was played, and how many would miss if all groups shared
-- all ways of the machine.
use Rattle.std.specs.Prelude.{ℕ, Bool, false, not, ◌&&◌, ◌==◌, if◌then◌else◌, List, map, Option, Some, None, filter_map, count_by}
use Rattle.std.specs.List.{flat_map, list_any, range_with_len}
use Rattle.lists.specs.Sums.{sum_below}
use Rattle.cache_core.specs.declared.entry.SliceEntry.{SliceEntry}
use Rattle.cache_core.specs.declared.entry.What.{What}
use Rattle.cache_core.specs.declared.entry.What.TheVariants.{Access, Drop}
use Rattle.group_tree.specs.declared.group.Group.{Group}
use Rattle.machine.specs.Slices.{slice_number}
use Rattle.machine.specs.declared.parameters.Parameters.{Parameters}
use Rattle.private_lru.specs.declared.item.Item.{Item}
use Rattle.private_lru.specs.declared.item.Item.TheVariants.{Use, Drop as Dropped}
use Rattle.run_law.specs.Journals.{JournalsValue, slice_at}
use Rattle.script_ops.specs.Values.{ScriptValue}
use Rattle.way_plans.specs.GroupItems.{since_emptied}
use Rattle.way_plans.specs.Plans.{misses_with}
use Rattle.way_plans.specs.declared.comparison.Comparison.{Comparison}

-- whether one of the groups has this gid
abbrev pub is_of : List Group → ℕ → Bool
is_of groups gid = list_any (λ (g : Group). g.gid.0 == gid) groups

-- ---- all groups in one cache

-- what an entry is to a private cache of all groups: a use of a line by one of them, or the drop of a line by anyone's `clflush`
abbrev pub shared_item : List Group → What → Option Item
shared_item groups (Access hit way owner rmid mask line) = if is_of groups owner.0 then Some (Use line) else None
shared_item groups (Drop line at) = Some (Dropped line)
shared_item groups what = None

-- the groups' items among these entries, in order
abbrev pub shared_among : List Group → List SliceEntry → List Item
shared_among groups entries = filter_map (λ (e : SliceEntry). shared_item groups e.what) entries

-- the groups' items in a slice since it was last emptied, in order
abbrev pub shared_in : List Group → List SliceEntry → List Item
shared_in groups entries = shared_among groups (since_emptied entries)

-- The groups' items in a domain, slice after slice. A set is in one slice, so the items of each set are in their order.
abbrev pub shared_items : Parameters → JournalsValue → ℕ → List Group → List Item
shared_items m j domain groups = flat_map (λ (slice : ℕ). shared_in groups (slice_at j (slice_number m domain slice))) (range_with_len 0 m.slices)

-- how many of the uses among these would miss in one private cache that has all ways of the machine
abbrev pub shared_misses : Parameters → JournalsValue → ℕ → List Group → ℕ
shared_misses m j domain groups = misses_with m.sets (shared_items m j domain groups) m.ways

-- ---- the script as it was played

-- whether this is an access of one of the groups that missed
abbrev pub is_miss_of : List Group → What → Bool
is_miss_of groups (Access hit way owner rmid mask line) = is_of groups owner.0 && not hit
is_miss_of groups what = false

-- how many accesses of the groups missed in a slice since it was last emptied
abbrev pub played_in : List Group → List SliceEntry → ℕ
played_in groups entries = count_by (λ (e : SliceEntry). is_miss_of groups e.what) (since_emptied entries)

-- the same of all slices of a domain
abbrev pub played_misses : Parameters → JournalsValue → ℕ → List Group → ℕ
played_misses m j domain groups = sum_below m.slices (λ (slice : ℕ). played_in groups (slice_at j (slice_number m domain slice)))

-- ---- both

-- what a domain's plan for these groups is compared with
abbrev pub comparison_in : ScriptValue → JournalsValue → List Group → ℕ → Comparison
comparison_in script j groups domain = record {
  as_it_is = played_misses script.machine j domain groups;
  shared = shared_misses script.machine j domain groups;
}

-- the same of each domain
abbrev pub comparisons_in : ScriptValue → JournalsValue → List Group → List Comparison
comparisons_in script j groups = map (comparison_in script j groups) (range_with_len 0 script.machine.domains)
