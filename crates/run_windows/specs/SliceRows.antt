-- Worked rows of one slice: private caches with drops, covered accesses, and the lines of a locked region.
-- (For functions and proofs: no promise of the program stands on it.)
use Rattle.std.specs.Prelude.{◌≡◌, ℕ, ◌+◌, ◌^◌, Bool, true, false, List, [], ◌∷◌, Some}
use Rattle.cache_core.specs.declared.entry.What.{What}
use Rattle.cache_core.specs.declared.entry.What.TheVariants.{Access, Flush, Lock, Drop}
use Rattle.cache_core.specs.declared.entry.SliceEntry.{SliceEntry}
use Rattle.cache_core.specs.Stands.{entry}
use Rattle.private_lru.specs.declared.item.Item.TheVariants.{Use, Drop as Dropped}
use Rattle.private_lru.specs.Covered.{covered_hits, covered_items}
use Rattle.private_lru.specs.Locked.{HitsLoaded, HoldsLoaded}
use Rattle.private_lru.specs.Private.{private_hit}

-- ---- a private cache

-- In a private cache of two ways: the room that a dropped line leaves is used, and a dropped line misses.
pub record PrivateRow : Type 0 where
  pub room : private_hit 2 (Use 0 ∷ Use 1 ∷ Dropped 1 ∷ Use 2 ∷ []) 0 ≡ true
  pub no_room : private_hit 2 (Use 0 ∷ Use 1 ∷ Use 2 ∷ []) 0 ≡ false
  pub other_room : private_hit 2 (Use 0 ∷ Use 1 ∷ Dropped 0 ∷ Use 2 ∷ []) 1 ≡ true
  pub room_once : private_hit 2 (Use 0 ∷ Use 1 ∷ Dropped 1 ∷ Use 2 ∷ Use 3 ∷ []) 0 ≡ false
  pub dropped : private_hit 2 (Use 0 ∷ Use 1 ∷ Dropped 1 ∷ []) 1 ≡ false
  pub dropped_alone : private_hit 1 (Use 0 ∷ Dropped 0 ∷ []) 0 ≡ false

-- ---- covered accesses, in a slice with one set

-- an access of this group with this mask, whose RMID is the number of the group; and a drop of a line that this way held
abbrev pub access : ℕ → ℕ → Bool → ℕ → ℕ → SliceEntry
access group mask hit way line = entry 0 0 0 (Access hit way (record { 0 = group }) group mask line)

abbrev pub drop : ℕ → ℕ → SliceEntry
drop line way = entry 0 0 0 (Drop line (Some way))

-- after a flush group 1 uses a line, the default group uses it too, and group 1 uses it again
abbrev pub shared_line : List SliceEntry
shared_line = access 1 3 false 0 0 ∷ access 0 252 true 0 0 ∷ access 1 3 true 0 0 ∷ []

-- the same without the other's use
abbrev pub own_line : List SliceEntry
own_line = access 1 3 false 0 0 ∷ access 1 3 true 0 0 ∷ []

-- The first use alone is covered; without the other's use both are.
pub record CoveredRow : Type 0 where
  pub items : covered_items 1 1 0 Flush shared_line ≡ Use 0 ∷ []
  pub hits : covered_hits 1 1 0 Flush shared_line ≡ false ∷ []
  pub own_items : covered_items 1 1 0 Flush own_line ≡ Use 0 ∷ Use 0 ∷ []
  pub own_hits : covered_hits 1 1 0 Flush own_line ≡ false ∷ true ∷ []

-- after a flush a group uses two lines, one is dropped, and it uses a third line and the first
abbrev pub dropped_line : List SliceEntry
dropped_line = access 0 3 false 0 0 ∷ access 0 3 false 1 1 ∷ drop 1 1 ∷ access 0 3 false 1 2 ∷ access 0 3 true 0 0 ∷ []

-- The drop is an item of the group, and uncovers nothing.
pub record DroppedLines : Type 0 where
  pub items : covered_items 1 0 0 Flush dropped_line ≡ Use 0 ∷ Use 1 ∷ Dropped 1 ∷ Use 2 ∷ Use 0 ∷ []
  pub hits : covered_hits 1 0 0 Flush dropped_line ≡ false ∷ false ∷ false ∷ false ∷ true ∷ []

-- ---- lines of a locked region, in a slice with four sets and four ways

-- the lock of ways 2 and 3, and the line of the region with this number
abbrev pub lock : What
lock = Lock 12 (2 ^ 52)

abbrev pub line : ℕ → ℕ
line number = 2 ^ 52 + number

-- after the lock: the first line is used, dropped and used again, and then the second line
abbrev pub region_window : List SliceEntry
region_window = access 0 3 true 2 (line 0) ∷ drop (line 0) 2 ∷ access 0 3 false 0 (line 0) ∷ access 0 3 true 2 (line 1) ∷ []

-- an access of the default group that misses
abbrev pub miss : ℕ → What
miss x = Access false 0 (record { 0 = 0 }) 0 3 x

-- A dropped line is owed no hit, and one that stays is; a line past the last is owed none.
pub record LoadedRow : Type 0 where
  pub holds : HoldsLoaded 4 lock region_window
  pub dropped : HitsLoaded 4 lock (drop (line 0) 2 ∷ []) (miss (line 0))
  pub stays : HitsLoaded 4 lock (drop (line 0) 2 ∷ []) (miss (line 1)) → ⊥
  pub first : HitsLoaded 4 lock [] (miss (line 0)) → ⊥
  pub last : HitsLoaded 4 lock [] (miss (line 7)) → ⊥
  pub past : HitsLoaded 4 lock [] (miss (line 8))
  pub missed : HoldsLoaded 4 lock (drop (line 0) 2 ∷ access 0 3 false 0 (line 1) ∷ []) → ⊥
