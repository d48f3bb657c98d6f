-- A set of a slice as a set under a policy.
use Rattle.std.specs.Prelude.{◌≡◌, ℕ, ◌+◌, ◌*◌, ◌%◌, ◌<◌, ◌≤◌, true, false, ◌==◌, if◌then◌else◌, List, [], ◌∷◌, filter, is_some, length, map, slice_index_or, take}
use Rattle.std.specs.List.{All, flat_map, range_with_len}
use Rattle.cbm.specs.Masks.{has_way}
use Rattle.cache_core.specs.declared.entry.What.{What}
use Rattle.cache_core.specs.declared.entry.What.TheVariants.{Access, Lock, Drop}
use Rattle.cache_core.specs.declared.entry.SliceEntry.{SliceEntry}
use Rattle.cache_core.specs.Filled.{empties}
use Rattle.cache_core.specs.History.{Shape, IsLegal, ways_below}
use Rattle.private_lru.specs.Isolation.{between}
use Rattle.policy_law.specs.Policies.{Event, way_of, set_after, empty_set}
use Rattle.policy_law.specs.Policies.Event.{Access as Accessed, Drop as Dropped}
use Rattle.policy_law.specs.KnownPolicies.{Stamps, lru, some_or}

-- the ways that a cache of so many ways has of a mask
abbrev pub ways_in : ℕ → ℕ → List ℕ
ways_in ways mask = filter (has_way mask) (range_with_len 0 ways)

-- what an entry is to a set: an access to one of its lines, by the group or another, or a drop of one; and a lock is fills of the ways
-- of its region, one after the other, by another. An access may hit with a mask of which the cache has no way; it then has the way
-- that it hits.
abbrev pub event_in : Shape → ℕ → ℕ → What → List Event
event_in m group set (Access hit way owner rmid mask line) =
    if line % m.sets == set then Accessed (owner.0 == group) (some_or (ways_in m.ways mask) (way ∷ [])) line ∷ [] else []
event_in m group set (Lock mask first_line) = map (λ w. Accessed false (w ∷ []) (first_line + set + ways_below mask w * m.sets)) (ways_in m.ways mask)
event_in m group set (Drop line at) = if line % m.sets == set then Dropped line ∷ [] else []
event_in m group set what = []

-- what these entries are to it
abbrev pub events_in : Shape → ℕ → ℕ → List SliceEntry → List Event
events_in m group set entries = flat_map (λ (e : SliceEntry). event_in m group set e.what) entries

-- an access after these entries hits just where its line is in the set that they make of an empty one
abbrev pub HitsAsLru : Shape → ℕ → Stamps → List SliceEntry → What → Type 0
HitsAsLru m group s earlier (Access hit way owner rmid mask line) = hit ≡ is_some (way_of line (set_after lru (empty_set s) (events_in m group (line % m.sets) earlier)).places)
HitsAsLru m group s earlier what = Unit {0}

-- From a flush or a lock on, as long as nothing empties the slice, each access does.
abbrev pub SetsAreLru : Type 0
SetsAreLru =
    (m : Shape) (entries : List SliceEntry) (from to group : ℕ) (opening : SliceEntry) (s : Stamps)
    → 0 < m.sets → IsLegal m entries → from < to → to ≤ length entries → opening ≡ slice_index_or entries from opening → empties opening.what ≡ true
    → All (λ (e : SliceEntry). empties e.what ≡ false) (between entries from to) → ((w : ℕ) → s.stamp w < s.clock)
    → (at : ℕ) (e : SliceEntry) → at < length (between entries from to)
    → HitsAsLru m group s (opening ∷ take at (between entries from to)) (slice_index_or (between entries from to) at e).what
