-- Laws of the list of one slice.
-- (For functions and proofs: no promise of the program stands on it.)
use Rattle.std.specs.Prelude.{◌≡◌, ℕ, ◌%◌, ◌^◌, ◌<◌, ◌≤◌, List, length, slice_index_or}
use Rattle.std.specs.List.{All}
use Rattle.cache_core.specs.declared.entry.What.{What}
use Rattle.cache_core.specs.declared.entry.What.TheVariants.{Lock}
use Rattle.cache_core.specs.declared.entry.SliceEntry.{SliceEntry}
use Rattle.cache_core.specs.History.{Shape, IsLegal}
use Rattle.cbm.specs.Masks.{ways_of}
use Rattle.private_lru.specs.GroupCounts.{covered_private_hits, hits_of_group}
use Rattle.private_lru.specs.Covered.{covered, covered_hits, covered_items}
use Rattle.private_lru.specs.Isolation.{IsIsolated, Opens, Respects, between}
use Rattle.private_lru.specs.Locked.{HoldsLoaded, Spares}
use Rattle.private_lru.specs.Private.{hits_of}

-- From a flush or a lock on, as long as each entry leaves the ways of the mask to the group, the group is isolated, in a
-- private cache of as many ways as the mask has.
abbrev pub SliceIsolation : Type 0
SliceIsolation =
    (m : Shape) (entries : List SliceEntry) (from to group mask : ℕ) (opening : SliceEntry)
    → 0 < m.sets → m.ways ≤ 64 → mask < 2 ^ m.ways → IsLegal m entries → from < to → to ≤ length entries
    → opening ≡ slice_index_or entries from opening → Opens mask opening.what
    → All (λ (e : SliceEntry). Respects group mask e.what) (between entries from to)
    → IsIsolated m.sets group (length (ways_of mask)) opening.what (between entries from to)

-- From a lock on, as long as each entry leaves the ways of the region alone, each access to a line of the region hits, unless
-- the line was dropped.
abbrev pub SliceHolds : Type 0
SliceHolds =
    (m : Shape) (entries : List SliceEntry) (from to mask first_line : ℕ) (opening : SliceEntry)
    → m.ways ≤ 64 → mask < 2 ^ m.ways → first_line % m.sets ≡ 0 → IsLegal m entries → from < to → to ≤ length entries
    → opening ≡ slice_index_or entries from opening → opening.what ≡ Lock mask first_line
    → All (λ (e : SliceEntry). Spares mask e.what) (between entries from to)
    → HoldsLoaded m.sets (Lock mask first_line) (between entries from to)

-- Where a group is isolated, its covered accesses hit, set by set, as in a private cache that sees its items up to the last one.
abbrev pub CoveredHits : Type 0
CoveredHits =
    (sets group ways set : ℕ) (opening : What) (window : List SliceEntry) → IsIsolated sets group ways opening window
    → covered_hits sets group set opening window ≡ hits_of ways (covered_items sets group set opening window)

-- So as many of them hit as would in a private cache.
abbrev pub CoveredHitsAreCounted : Type 0
CoveredHitsAreCounted =
    (sets group ways : ℕ) (opening : What) (window : List SliceEntry) → IsIsolated sets group ways opening window
    → hits_of_group group (covered sets group opening window) ≡ covered_private_hits sets group ways opening window

-- Two isolated windows, in caches of as many sets and of groups with as many ways: where the groups' items in a set up to the
-- last covered access are the same, in order, these accesses have the same hits there, whatever the others did.
abbrev pub TwoWorlds : Type 0
TwoWorlds =
    (sets group its_group ways set : ℕ) (opening its_opening : What) (window its_window : List SliceEntry)
    → IsIsolated sets group ways opening window → IsIsolated sets its_group ways its_opening its_window
    → covered_items sets group set opening window ≡ covered_items sets its_group set its_opening its_window
    → covered_hits sets group set opening window ≡ covered_hits sets its_group set its_opening its_window
