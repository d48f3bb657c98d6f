-- Caches with their histories.
-- (For functions and proofs: no promise of the program stands on it.)
use Rattle.std.specs.Prelude.{◌≡◌, ℕ, ◌%◌, ◌^◌, ◌<◌, ◌≤◌, Bool, All, List, [], ◌∷◌, ◌++◌, length, map, slice_set}
use Rattle.cache_core.specs.History.{IsLegal, Shape, floor_of, shape_of}
use Rattle.cache_core.specs.declared.entry.SliceEntry.{SliceEntry}
use Rattle.cache_core.specs.declared.entry.What.TheVariants.{Access, Flush}
use Rattle.machine.specs.declared.parameters.Parameters.{Parameters}
use Rattle.pair_law.specs.Entries.{entry, slice_in}
use Rattle.rc_base.specs.declared.names.Tag.{Tag}

-- a cache, and all that was entered in it
pub record RecordedValue : Type 0 where
  pub shape : Shape
  pub history : List SliceEntry

-- the caches of one level: those of a machine with these parameters, and the history of each domain's
pub record LevelValue : Type 0 where
  pub parameters : Parameters
  pub histories : List (List SliceEntry)

-- a cache of this shape
abbrev pub HasShape : Shape → RecordedValue → Type 0
HasShape shape c = c.shape ≡ shape

-- the histories of several caches
abbrev pub histories_of : List RecordedValue → List (List SliceEntry)
histories_of caches = map (λ (c : RecordedValue). c.history) caches

-- caches that all have one shape keep it
abbrev pub KeepShapes : List RecordedValue → List RecordedValue → Type 0
KeepShapes old new = (shape : Shape) → All (HasShape shape) old → All (HasShape shape) new

-- so many caches of this machine, empty
pub record AreFresh (p : Parameters) (n : ℕ) (caches : List RecordedValue) : Type 0 where
  pub count : length caches ≡ n
  pub shapes : All (HasShape (shape_of p 0)) caches
  pub empty : All (λ (h : List SliceEntry). h ≡ []) (histories_of caches)

-- the histories of caches, each legal for its cache
pub record AreTaken (caches : List RecordedValue) (histories : List (List SliceEntry)) : Type 0 where
  pub same : histories ≡ histories_of caches
  pub legal : All (λ (c : RecordedValue). IsLegal c.shape c.history) caches

-- what an entry of this epoch needs: no flush of a later one
abbrev pub IsNotAfter : ℕ → List SliceEntry → Type 0
IsNotAfter epoch history = floor_of history ≤ epoch

-- there is room for an entry more
abbrev pub HasRoom : List SliceEntry → Type 0
HasRoom history = length history < 2 ^ 32

-- What an access needs of a level: the domain of its tag, a mask with some way there, RMID 0, no flush of a later epoch, and room.
pub record CanAccess (level : LevelValue) (tag : Tag) : Type 0 where
  pub domain : tag.domain < length level.histories
  pub mask : 0 < tag.mask % 2 ^ level.parameters.ways
  pub rmid : tag.rmid ≡ 0
  pub floor : IsNotAfter tag.epoch (slice_in level.histories tag.domain)
  pub room : HasRoom (slice_in level.histories tag.domain)

-- what a flush of this epoch needs of a level: no flush of a later one, and room
pub record CanFlush (level : LevelValue) (epoch : ℕ) : Type 0 where
  pub floors : All (IsNotAfter epoch) level.histories
  pub rooms : All HasRoom level.histories

-- the entry of an access with this tag
abbrev pub access_entry : ℕ → Tag → ℕ → Bool → ℕ → SliceEntry
access_entry op tag line hit way = entry op tag.epoch (Access hit way tag.owner tag.rmid tag.mask line)

-- a history has the entry of an access more, in some way
abbrev pub AddsAccess : ℕ → Tag → ℕ → Bool → List SliceEntry → List SliceEntry → Type 0
AddsAccess op tag line hit old new = (way : ℕ) × (new ≡ old ++ access_entry op tag line hit way ∷ [])

-- and so has that of the tag's domain
abbrev pub AddsAccessIn : ℕ → Tag → ℕ → Bool → List (List SliceEntry) → List (List SliceEntry) → Type 0
AddsAccessIn op tag line hit old new = (way : ℕ) × (new ≡ slice_set old tag.domain (slice_in old tag.domain ++ access_entry op tag line hit way ∷ []))

-- a history with a flush more
abbrev pub with_flush : ℕ → ℕ → List SliceEntry → List SliceEntry
with_flush op epoch history = history ++ entry op epoch Flush ∷ []

-- all histories with a flush more
abbrev pub all_with_flush : ℕ → ℕ → List (List SliceEntry) → List (List SliceEntry)
all_with_flush op epoch histories = map (with_flush op epoch) histories
