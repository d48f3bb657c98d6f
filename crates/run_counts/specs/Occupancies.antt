-- The lines of each RMID in slices, while their entries are counted from the last one back.
-- (For functions and proofs: no promise of the program stands on it.)
use Rattle.std.specs.Prelude.{◌≡◌, ℕ, ◌+◌, ◌<◌, ◌≤◌, Bool, not, ◌==◌, ◌&&◌, ◌||◌, if◌then◌else◌, List, length, Option, Some, None, is_some, option_and_then, slice_index}
use Rattle.std.specs.Option.{option_or}
use Rattle.cbm.specs.Masks.{has_way}
use Rattle.cache_core.specs.Filled.{places_with}
use Rattle.cache_core.specs.Fills.{Resident}
use Rattle.cache_core.specs.History.{Shape, IsOwn, is_of}
use Rattle.lists.specs.Sums.{one_if}
use Rattle.machine.specs.declared.parameters.Parameters.{Parameters}
use Rattle.run_counts.specs.Domains.{rmid_lines, valid_lines}
use Rattle.run_law.specs.Journals.{JournalsValue}
use Rattle.script_ops.specs.Values.{ScriptValue}

-- for each set the ways that are done with, for each RMID how many lines it has, and how many lines there are
pub record OccupancyValue : Type 0 where
  pub seen : List ℕ
  pub counts : List ℕ
  pub valid : ℕ

-- whether a place is done with
abbrev pub is_seen : OccupancyValue → ℕ → ℕ → Bool
is_seen o set way = has_way (slice_index o.seen set) way

-- how many lines an RMID has
abbrev pub lines_told : OccupancyValue → ℕ → ℕ
lines_told o rmid = slice_index o.counts rmid

-- the line of a place was counted for an RMID, unless the place had been done with
pub record AddsPlace (old new : OccupancyValue) (set way rmid : ℕ) : Type 0 where
  pub sets : length new.seen ≡ length old.seen
  pub rmids : length new.counts ≡ length old.counts
  pub seen : (s w : ℕ) → w < 32 → is_seen new s w ≡ (is_seen old s w || ((set == s) && (way == w)))
  pub counts : (r : ℕ) → r < length old.counts → lines_told new r ≡ lines_told old r + (if is_seen old set way then 0 else one_if (rmid == r))
  pub valid : new.valid ≡ old.valid + one_if (not (is_seen old set way))

-- a place is done with, and nothing was counted
pub record SkipsPlace (old new : OccupancyValue) (set way : ℕ) : Type 0 where
  pub sets : length new.seen ≡ length old.seen
  pub seen : (s w : ℕ) → w < 32 → is_seen new s w ≡ (is_seen old s w || ((set == s) && (way == w)))
  pub counts : new.counts ≡ old.counts
  pub valid : new.valid ≡ old.valid

-- each count is at most `most`
pub record IsAtMost (most : ℕ) (o : OccupancyValue) : Type 0 where
  pub counts : (r : ℕ) → lines_told o r ≤ most
  pub valid : o.valid ≤ most

-- The lines of one slice, those that its places hold, were counted since `base`.
pub record HasCounted (m : Shape) (base : OccupancyValue) (holds : ℕ → ℕ → Option Resident) (now : OccupancyValue) : Type 0 where
  pub sets : length now.seen ≡ m.sets
  pub rmids : length now.counts ≡ length base.counts
  pub counts : (r : ℕ) → r < length base.counts → lines_told now r ≡ lines_told base r + places_with m (is_of r) holds
  pub valid : now.valid ≡ base.valid + places_with m (λ o. is_some o) holds

-- what each place holds, as far as that was decided; an undecided place holds no line
abbrev pub held_in : (ℕ → ℕ → Option (Option Resident)) → ℕ → ℕ → Option Resident
held_in places set way = option_and_then (λ (o : Option Resident). o) (places set way)

-- The lines of one slice were counted since `base`, and the places that are done with are those that were decided.
pub record HasDecided (m : Shape) (base : OccupancyValue) (places : ℕ → ℕ → Option (Option Resident)) (now : OccupancyValue) : Type 0 where
  pub counted : HasCounted m base (held_in places) now
  pub seen : (set way : ℕ) → IsOwn m set → way < m.ways → is_seen now set way ≡ is_some (places set way)

-- the places that pass a test are decided too, where they were not, and hold this
abbrev pub with_left : (ℕ → ℕ → Bool) → (ℕ → ℕ → Option Resident) → (ℕ → ℕ → Option (Option Resident)) → ℕ → ℕ → Option (Option Resident)
with_left test left places set way = option_or (places set way) (if test set way then Some (left set way) else None)

-- each of these lines is of one RMID
abbrev pub AreOf : ℕ → (ℕ → ℕ → Resident) → Type 0
AreOf rmid lines = (set way : ℕ) → (lines set way).rmid ≡ rmid

-- Whatever was counted before, the places of a slice that pass a test were counted too, for this RMID.
abbrev pub AddsPlaces : Shape → OccupancyValue → OccupancyValue → ℕ → (ℕ → ℕ → Bool) → Type 0
AddsPlaces m old new rmid test =
    (base : OccupancyValue) (places : ℕ → ℕ → Option (Option Resident)) (lines : ℕ → ℕ → Resident)
    → AreOf rmid lines → HasDecided m base places old → HasDecided m base (with_left test (λ s w. Some (lines s w)) places) new

-- Whatever was counted before, the places of a slice that pass a test are done with too, and hold no line.
abbrev pub SkipsPlaces : Shape → OccupancyValue → OccupancyValue → (ℕ → ℕ → Bool) → Type 0
SkipsPlaces m old new test =
    (base : OccupancyValue) (places : ℕ → ℕ → Option (Option Resident)) → HasDecided m base places old → HasDecided m base (with_left test (λ s w. None) places) new

-- room for the sets and the RMIDs of a machine
pub record Suits (m : Parameters) (o : OccupancyValue) : Type 0 where
  pub sets : length o.seen ≡ m.sets
  pub rmids : length o.counts ≡ m.rmids

-- the lines of a domain at the end were counted
pub record HasCountedDomain (script : ScriptValue) (j : JournalsValue) (domain : ℕ) (o : OccupancyValue) : Type 0 where
  pub suits : Suits script.machine o
  pub lines : (rmid : ℕ) → rmid < script.machine.rmids → lines_told o rmid ≡ rmid_lines script j domain rmid
  pub valid : o.valid ≡ valid_lines script j domain
