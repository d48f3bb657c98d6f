-- Which lines a group used in a domain since its slices were last emptied, and which lines were dropped meanwhile, in order.
use Rattle.std.specs.Prelude.{ℕ, Option, Some, None, List, [], ◌∷◌, ◌==◌, if◌then◌else◌, filter_map}
use Rattle.std.specs.List.{flat_map, list_any, range_with_len}
use Rattle.cache_core.specs.Filled.{empties}
use Rattle.cache_core.specs.declared.entry.SliceEntry.{SliceEntry}
use Rattle.cache_core.specs.declared.entry.What.{What}
use Rattle.cache_core.specs.declared.entry.What.TheVariants.{Access, Drop}
use Rattle.machine.specs.Slices.{slice_number}
use Rattle.machine.specs.declared.parameters.Parameters.{Parameters}
use Rattle.private_lru.specs.declared.item.Item.{Item}
use Rattle.private_lru.specs.declared.item.Item.TheVariants.{Use, Drop as Dropped}
use Rattle.run_law.specs.Journals.{JournalsValue, slice_at}

-- the entries behind the last flush or lock, or all where there is none
abbrev pub since_emptied : List SliceEntry → List SliceEntry
since_emptied [] = []
since_emptied (e ∷ es) = if list_any (λ (x : SliceEntry). empties x.what) (e ∷ es) then since_emptied es else e ∷ es

-- What an entry is to a private cache of the group: a use of a line by the group, or the drop of a line by anyone's `clflush`.
abbrev pub item_of : ℕ → What → Option Item
item_of gid (Access hit way owner rmid mask line) = if owner.0 == gid then Some (Use line) else None
item_of gid (Drop line at) = Some (Dropped line)
item_of gid what = None

-- the group's items among these entries
abbrev pub items_among : ℕ → List SliceEntry → List Item
items_among gid entries = filter_map (λ (e : SliceEntry). item_of gid e.what) entries

-- the group's items in a slice since it was last emptied
abbrev pub items_in : ℕ → List SliceEntry → List Item
items_in gid entries = items_among gid (since_emptied entries)

-- The group's items in a domain, slice after slice. A set is in one slice, so the items of each set are in their order.
abbrev pub items_of : Parameters → JournalsValue → ℕ → ℕ → List Item
items_of m j domain gid = flat_map (λ (slice : ℕ). items_in gid (slice_at j (slice_number m domain slice))) (range_with_len 0 m.slices)
