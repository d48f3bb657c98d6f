-- A slice that is replayed entry by entry.
-- (For functions and proofs: no promise of the program stands on it.)
use Rattle.std.specs.Prelude.{◌≡◌, ℕ, ◌+◌, ◌*◌, ◌/◌, ◌%◌, ◌<◌, ◌≤◌, ◌==◌, if◌then◌else◌, false, true, Bool, IfSome, List, length, Option, Some}
use Rattle.cache_core.specs.History.{Shape, decides, floor_of, held, is_own, left_by, lines_of, sets_floor, used, uses, ways_below}
use Rattle.cache_core.specs.declared.entry.What.TheVariants.{Access}
use Rattle.rc_base.specs.declared.names.Gid.{Gid}
use Rattle.cache_core.specs.declared.entry.SliceEntry.{SliceEntry}
use Rattle.journal_check.specs.declared.cached_line.CachedLine.{CachedLine}
use Rattle.journal_check.specs.RmidCounts.{Recounts, count_at}
use Rattle.journal_check.specs.Slots.{Puts, left_place, place_at, resident_of, rmid_of}
use Rattle.journal_check.specs.declared.region.Region.{Region}
use Rattle.journal_check.specs.declared.replay.Replay.{Replay}

-- a slice of a cache as large as a machine may have, which is divided into whole slices
pub record IsWhole (m : Shape) : Type 0 where
  pub some_set : 0 < m.sets
  pub few_sets : m.sets ≤ 65536
  pub few_ways : m.ways ≤ 32
  pub inside : m.slice < m.slices
  pub whole : m.sets % m.slices ≡ 0

-- a place is what the entries leave there
pub record IsPlace (m : Shape) (es : List SliceEntry) (set way : ℕ) (place : Option CachedLine) : Type 0 where
  pub resident : held m es set way ≡ resident_of place
  pub age : (p : CachedLine) → place ≡ Some p → used m es set way ≡ p.used
  pub named : (p : CachedLine) → place ≡ Some p → p.rmid < 65536

-- what is kept of a slice is what these entries leave
pub record StandsFor (m : Shape) (es : List SliceEntry) (r : Replay) : Type 0 where
  pub divided : IsWhole m
  pub shape : r.slots.shape ≡ m
  pub places : (set way : ℕ) → set < m.sets → way < m.ways → IsPlace m es set way (place_at r.slots set way)
  pub counts : (rmid : ℕ) → rmid < 65536 → count_at r.counts rmid ≡ lines_of m es rmid
  pub floor : r.floor ≡ floor_of es
  pub slots_generation : r.slots.generation ≤ length es
  pub counts_generation : r.counts.generation ≤ length es

-- one place is written, and its line is counted where the set is the slice's own
pub record Writes (old new : Replay) (set way : ℕ) (place : Option CachedLine) : Type 0 where
  pub slots : Puts old.slots new.slots set way place
  pub floor : new.floor ≡ old.floor
  pub generation : new.counts.generation ≡ old.counts.generation
  pub own : is_own old.slots.shape set ≡ true → Recounts old.counts new.counts (rmid_of (place_at old.slots set way)) (rmid_of place)
  pub other : is_own old.slots.shape set ≡ false → new.counts ≡ old.counts

-- every place is emptied, and a region is left
pub record Empties (old new : Replay) (epoch : ℕ) (region : Region) : Type 0 where
  pub shape : new.slots.shape ≡ old.slots.shape
  pub places : (set way : ℕ) → place_at new.slots set way ≡ left_place old.slots.shape region set way
  pub counts : (rmid : ℕ) → count_at new.counts rmid ≡ (if rmid == 0 then old.slots.shape.sets / old.slots.shape.slices * ways_below region.mask old.slots.shape.ways else 0)
  pub floor : new.floor ≡ epoch
  pub slots_generation : new.slots.generation ≡ old.slots.generation + 1
  pub counts_generation : new.counts.generation ≡ old.counts.generation + 1

-- the RMID of a line after an access: that of a hit stays
pub record IsRmidAfter (place : Option CachedLine) (hit : Bool) (rmid after : ℕ) : Type 0 where
  pub filled : hit ≡ false → after ≡ rmid
  pub kept : hit ≡ true → IfSome (rmid_of place) (λ r. after ≡ r)

-- an entry is an access
pub record IsAccessOf (e : SliceEntry) (hit : Bool) (way rmid line : ℕ) : Type 0 where
  pub owner : Gid
  pub mask : ℕ
  pub is : e.what ≡ Access hit way owner rmid mask line

-- an entry empties every place, and leaves a region
pub record LeavesRegion (m : Shape) (es : List SliceEntry) (e : SliceEntry) (region : Region) : Type 0 where
  pub decides_all : (set way : ℕ) → decides m set way e.what ≡ true
  pub leaves : (set way : ℕ) → left_by m set way e.what ≡ resident_of (left_place m region set way)
  pub ages : (set way : ℕ) (p : CachedLine) → left_place m region set way ≡ Some p → (uses m set way e.what ≡ true) × (p.used ≡ length es + 1)
  pub sets : sets_floor e.what ≡ true

-- an entry leaves every place and the floor as they are
pub record IsQuiet (m : Shape) (e : SliceEntry) : Type 0 where
  pub decides_none : (set way : ℕ) → decides m set way e.what ≡ false
  pub uses_none : (set way : ℕ) → uses m set way e.what ≡ false
  pub leaves_floor : sets_floor e.what ≡ false
