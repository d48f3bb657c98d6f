-- Which histories a cache stands for, and what each call adds to them.
-- (For functions and proofs: no promise of the program stands on it.)
use Rattle.std.specs.Prelude.{◌≡◌, ℕ, ◌<◌, ◌≤◌, ◌+◌, ◌↔◌, Bool, true, false, List, [], ◌∷◌, ◌++◌, length, IsSome, Option, Some, None, option_map, slice_set}
use Rattle.cache_core.specs.declared.entry.What.{What}
use Rattle.cache_core.specs.declared.entry.What.TheVariants.{Access}
use Rattle.cache_core.specs.declared.entry.SliceEntry.{SliceEntry}
use Rattle.cache_core.specs.declared.touched.Touched.{Touched}
use Rattle.cache_core.specs.declared.touched.Touched.TheVariants.{Hit, Filled, Stale}
use Rattle.cache_core.specs.declared.cached_line.CachedLine.{CachedLine}
use Rattle.rc_base.specs.declared.names.Tag.{Tag}
use Rattle.cache_core.specs.Fills.{Holds, IsVictim}
use Rattle.cache_core.specs.History.{IsOwn, held, used, floor_of, IsLegal}
use Rattle.cache_core.specs.Places.{set_in, resident_in, stamp_in, place_in, CacheValue}

-- The cache stands for a legal history: each place of its sets holds what the history left there, the places of a set are
-- as old as they are by the history, and the floor is the history's.
pub record StandsFor (cache : CacheValue) (history : List SliceEntry) : Type 0 where
  pub legal : IsLegal cache.shape history
  pub holds : (set way : ℕ) → IsOwn cache.shape set → way < cache.shape.ways → resident_in (set_in cache.places set) way ≡ held cache.shape history set way
  pub ages :
      (set v w : ℕ) → IsOwn cache.shape set → v < cache.shape.ways → w < cache.shape.ways
      → IsSome (resident_in (set_in cache.places set) v) → IsSome (resident_in (set_in cache.places set) w)
      → (stamp_in (set_in cache.places set) v ≤ stamp_in (set_in cache.places set) w) ↔ (used cache.shape history set v ≤ used cache.shape history set w)
  pub floor : cache.floor ≡ floor_of history
  pub clock : cache.clock ≤ length history

-- the entry of an op: its thread and its number there, its epoch, and what happened
abbrev pub entry : ℕ → ℕ → ℕ → What → SliceEntry
entry thread op epoch what = record { thread = thread; op = op; epoch = epoch; what = what }

-- Whatever the cache stood for, it now stands for that with this entry added.
abbrev pub Adds : CacheValue → CacheValue → ℕ → What → Type 0
Adds old new epoch what = (thread op : ℕ) (history : List SliceEntry) → StandsFor old history → StandsFor new (history ++ entry thread op epoch what ∷ [])

-- What an access does: nothing below the floor, and else one entry, with the hit and the way that are answered.
abbrev pub Accesses : CacheValue → CacheValue → Tag → ℕ → Touched → Type 0
Accesses old new tag line (Hit way) = Adds old new tag.epoch (Access true way tag.owner tag.rmid tag.mask line)
Accesses old new tag line (Filled way) = Adds old new tag.epoch (Access false way tag.owner tag.rmid tag.mask line)
Accesses old new tag line (Stale floor) = (new ≡ old) × (floor ≡ old.floor)

-- what came of an access that hit, or else filled, this way
abbrev pub touched_as : Bool → ℕ → Touched
touched_as true way = Hit way
touched_as false way = Filled way

-- the access was below the floor
abbrev pub IsStale : Touched → Type 0
IsStale (Hit way) = ⊥
IsStale (Filled way) = ⊥
IsStale (Stale floor) = Unit {0}

-- an access that is not stale is one entry more
abbrev pub clock_after : ℕ → Touched → ℕ
clock_after clock (Hit way) = clock + 1
clock_after clock (Filled way) = clock + 1
clock_after clock (Stale floor) = clock

-- What an access does to its set: a hit marks the way that holds the line, and a fill puts the line into the victim's way.
abbrev pub Touches : List (Option CachedLine) → List (Option CachedLine) → ℕ → CachedLine → Touched → Type 0
Touches old new mask place (Hit way) =
    (way < length old) × Holds (resident_in old) place.line way
    × (new ≡ slice_set old way (option_map (λ (p : CachedLine). record p { used = place.used }) (place_in old way)))
Touches old new mask place (Filled way) =
    ((w : ℕ) → Holds (resident_in old) place.line w → ⊥) × IsVictim (length old) mask (resident_in old) (stamp_in old) way
    × (new ≡ slice_set old way (Some place))
Touches old new mask place (Stale floor) = ⊥

-- What a drop does to the sets: the way that holds the line is emptied, where there is one.
abbrev pub Drops : List (List (Option CachedLine)) → List (List (Option CachedLine)) → ℕ → ℕ → Option ℕ → Type 0
Drops old new set line (Some way) =
    (way < length (set_in old set)) × Holds (resident_in (set_in old set)) line way
    × (new ≡ slice_set old set (slice_set (set_in old set) way None))
Drops old new set line None = ((w : ℕ) → Holds (resident_in (set_in old set)) line w → ⊥) × (new ≡ old)
