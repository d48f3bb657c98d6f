-- Places that are emptied all at once, and written one by one.
-- (For functions and proofs: no promise of the program stands on it.)
use Rattle.std.specs.Prelude.{◌≡◌, ℕ, ◌+◌, ◌*◌, ◌<◌, ◌≤◌, ◌==◌, if◌then◌else◌, List, length, Option, Some, None, option_and_then, option_map, slice_get, slice_set, unwrap_or}
use Rattle.std.specs.Option.{option_map_or}
use Rattle.cache_core.specs.Fills.{Resident}
use Rattle.cache_core.specs.History.{Shape, ways_below}
use Rattle.cbm.specs.Masks.{has_way}
use Rattle.journal_check.specs.declared.cached_line.CachedLine.{CachedLine}
use Rattle.journal_check.specs.declared.region.Region.{Region}
use Rattle.journal_check.specs.declared.slot.Slot.{Slot}

-- what contracts see of the places
pub record SlotsValue : Type 0 where
  pub shape : Shape
  pub slots : List Slot
  pub generation : ℕ
  pub region : Region

-- there is a slot for each place, and none of a generation to come
pub record AreSlots (shape : Shape) (slots : List Slot) (generation : ℕ) : Type 0 where
  pub count : length slots ≡ shape.sets * shape.ways
  pub present : (i : ℕ) (s : Slot) → slice_get slots i ≡ Some s → s.generation ≤ generation

-- what a slot has, where it is of this generation
abbrev pub of_generation : ℕ → Slot → Option (Option CachedLine)
of_generation generation s = if s.generation == generation then Some s.place else None

-- what was written in a slot since the last emptying
abbrev pub written : SlotsValue → ℕ → Option (Option CachedLine)
written v i = option_and_then (of_generation v.generation) (slice_get v.slots i)

-- a line of the region has RMID 0 and its stamp
abbrev pub loaded : ℕ → ℕ → Option CachedLine
loaded line stamp = Some (record { line = line; rmid = 0; used = stamp })

-- what the last emptying left in a place: a line of the region in each way of its mask
abbrev pub left_place : Shape → Region → ℕ → ℕ → Option CachedLine
left_place m region set way = if has_way region.mask way then loaded (region.first_line + set + ways_below region.mask way * m.sets) region.stamp else None

-- what a place holds
abbrev pub place_at : SlotsValue → ℕ → ℕ → Option CachedLine
place_at v set way = unwrap_or (written v (set * v.shape.ways + way)) (left_place v.shape v.region set way)

-- the line and the RMID of a place
abbrev pub resident_of : Option CachedLine → Option Resident
resident_of place = option_map (λ (p : CachedLine). record { line = p.line; rmid = p.rmid }) place

-- a place holds this line
abbrev pub HasLine : Option CachedLine → ℕ → Type 0
HasLine place line = option_map (λ (r : Resident). r.line) (resident_of place) ≡ Some line

-- the RMID of a place
abbrev pub rmid_of : Option CachedLine → Option ℕ
rmid_of place = option_map (λ (p : CachedLine). p.rmid) place

-- when a place was used, and 0 where it is empty
abbrev pub age_of : Option CachedLine → ℕ
age_of place = option_map_or (λ (p : CachedLine). p.used) place 0

-- one place is written
pub record Puts (old new : SlotsValue) (set way : ℕ) (place : Option CachedLine) : Type 0 where
  pub there : set * old.shape.ways + way < length old.slots
  pub shape : new.shape ≡ old.shape
  pub generation : new.generation ≡ old.generation
  pub region : new.region ≡ old.region
  pub slots : new.slots ≡ slice_set old.slots (set * old.shape.ways + way) (record { generation = old.generation; place = place })
