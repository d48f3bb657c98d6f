-- One slice while a script is played.
-- (For functions and proofs: no promise of the program stands on it.)
use Rattle.std.specs.Prelude.{◌≡◌, ℕ, ◌<◌, true, false, List, [], ◌∷◌, ◌++◌}
use Rattle.cache_core.specs.History.{lines_of}
use Rattle.cache_core.specs.Places.{CacheValue}
use Rattle.cache_core.specs.Stands.{StandsFor, entry}
use Rattle.cache_core.specs.declared.entry.SliceEntry.{SliceEntry}
use Rattle.cache_core.specs.declared.entry.What.TheVariants as whats
use Rattle.cache_core.specs.declared.touched.Touched.{Touched}
use Rattle.cache_core.specs.declared.touched.Touched.TheVariants.{Hit, Filled, Stale}
use Rattle.machine.specs.declared.parameters.Parameters.{Parameters}
use Rattle.rc_base.specs.declared.names.Tag.{Tag}
use Rattle.run_law.specs.Owed.{paid_by, what_of}
use Rattle.run_law.specs.Caches.{IsCacheOf}
use Rattle.tree_law.specs.declared.follow.Follow.{Follow}

-- a slice that is played: its cache, its entries so far, and for how many it has room
pub record SliceValue : Type 0 where
  pub cache : CacheValue
  pub entries : List SliceEntry
  pub room : ℕ

-- slice i before the first op
pub record IsFresh (m : Parameters) (i : ℕ) (s : SliceValue) : Type 0 where
  pub cache : IsCacheOf m i [] s.cache
  pub empty : s.entries ≡ []

-- one slice has made this entry
pub record Grows (e : SliceEntry) (old new : SliceValue) : Type 0 where
  pub shape : new.cache.shape ≡ old.cache.shape
  pub rmids : new.cache.rmids ≡ old.cache.rmids
  pub room : new.room ≡ old.room
  pub entries : new.entries ≡ old.entries ++ e ∷ []
  pub stands : StandsFor old.cache old.entries → StandsFor new.cache new.entries

-- the slice has made the access of an op with this tag: a hit or a fill is one entry more, and a stale tag leaves all as it was
abbrev pub TouchesLine : ℕ → ℕ → Tag → ℕ → SliceValue → SliceValue → Touched → Type 0
TouchesLine thread op tag line old new (Hit way) = Grows (entry thread op tag.epoch (whats.Access true way tag.owner tag.rmid tag.mask line)) old new
TouchesLine thread op tag line old new (Filled way) = Grows (entry thread op tag.epoch (whats.Access false way tag.owner tag.rmid tag.mask line)) old new
TouchesLine thread op tag line old new (Stale floor) = (new ≡ old) × (floor ≡ old.cache.floor) × (tag.epoch < floor)

-- the slice has noted a look of an op at an RMID, with the lines that its cache holds
pub record CountsLines (thread op epoch rmid lines : ℕ) (old new : SliceValue) : Type 0 where
  pub grows : Grows (entry thread op epoch (whats.Look rmid lines)) old new
  pub counts : (history : List SliceEntry) → StandsFor old.cache history → lines ≡ lines_of old.cache.shape history rmid

-- The slice has made the entry of a follow-up of an op: what the follow-up enters, and for a touch the hit and the way besides,
-- for a drop the way.
pub record FollowsUp (thread op epoch : ℕ) (f : Follow) (old new : SliceValue) : Type 0 where
  pub entry : SliceEntry
  pub thread_is : entry.thread ≡ thread
  pub op_is : entry.op ≡ op
  pub owed : paid_by entry ≡ record { epoch = epoch; what = what_of f }
  pub grows : Grows entry old new
