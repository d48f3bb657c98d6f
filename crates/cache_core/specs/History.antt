-- What the places of a slice hold after a list of entries, and which lists are legal.
-- (Intel SDM volume 3, cache allocation and cache monitoring; the floor and locked regions are this project's profile.)
use Rattle.std.specs.Prelude.{◌≡◌, ℕ, zero, suc, ◌+◌, ◌*◌, ◌%◌, ◌<◌, ◌≤◌, max, Bool, true, false, not, ◌&&◌, ◌==◌, nat_lt, if◌then◌else◌, List, [], ◌∷◌, Option, Some, None, option_and_then, option_map, is_some}
use Rattle.std.specs.Option.{option_or}
use Rattle.rc_base.specs.Follows.{EachFollows}
use Rattle.cbm.specs.Masks.{has_way}
use Rattle.machine.specs.declared.parameters.Parameters.{Parameters}
use Rattle.cache_core.specs.declared.entry.What.{What}
use Rattle.cache_core.specs.declared.entry.What.TheVariants.{Access, Raise, Flush, Lock, Look, Drop}
use Rattle.cache_core.specs.declared.entry.SliceEntry.{SliceEntry}
use Rattle.cache_core.specs.Fills.{Resident, IsOutcome, IsPlaceOf}
use Rattle.lists.specs.Sums.{sum_below, one_if}

-- A slice: how many sets and ways its domain has, into how many slices the sets are divided, and which of these it is.
pub record Shape : Type 0 where
  pub sets : ℕ
  pub ways : ℕ
  pub slices : ℕ
  pub slice : ℕ

-- this slice of a cache of a machine with these parameters
abbrev pub shape_of : Parameters → ℕ → Shape
shape_of p slice = record { sets = p.sets; ways = p.ways; slices = p.slices; slice = slice }

-- a set is of the slice whose number it leaves modulo the number of slices
abbrev pub is_own : Shape → ℕ → Bool
is_own m set = set % m.slices == m.slice

-- (For proofs.) a set of this slice
abbrev pub IsOwn : Shape → ℕ → Type 0
IsOwn m set = (set < m.sets) × (set % m.slices ≡ m.slice)

-- how many ways below this one are in the mask
abbrev pub ways_below : ℕ → ℕ → ℕ
ways_below mask zero = 0
ways_below mask (suc way) = ways_below mask way + one_if (has_way mask way)

-- the last entry that passes a test
abbrev pub last_such : (SliceEntry → Bool) → List SliceEntry → Option SliceEntry
last_such p [] = None
last_such p (e ∷ es) = option_or (last_such p es) (if p e then Some e else None)

-- the place of the last entry that passes a test, counted from 1, and 0 where there is none
abbrev pub last_place : (SliceEntry → Bool) → List SliceEntry → ℕ
last_place p [] = 0
last_place p (e ∷ es) = if nat_lt 0 (last_place p es) then last_place p es + 1 else one_if (p e)

-- whether this decides what a place holds: a flush, a lock, a fill of the place, or a drop of what it held
abbrev pub decides : Shape → ℕ → ℕ → What → Bool
decides m set way (Access hit at owner rmid mask line) = not hit && (line % m.sets == set) && (at == way)
decides m set way Raise = false
decides m set way Flush = true
decides m set way (Lock mask first_line) = true
decides m set way (Look rmid lines) = false
decides m set way (Drop line None) = false
decides m set way (Drop line (Some at)) = (line % m.sets == set) && (at == way)

-- what it leaves in the place: a fill its line, a flush or a drop nothing, a lock one line of the region in each way of its mask
abbrev pub left_by : Shape → ℕ → ℕ → What → Option Resident
left_by m set way (Access hit at owner rmid mask line) = Some (record { line = line; rmid = rmid })
left_by m set way Raise = None
left_by m set way Flush = None
left_by m set way (Lock mask first_line) =
    if has_way mask way then Some (record { line = first_line + set + ways_below mask way * m.sets; rmid = 0 }) else None
left_by m set way (Look rmid lines) = None
left_by m set way (Drop line at) = None

-- what a place holds after these entries
abbrev pub held : Shape → List SliceEntry → ℕ → ℕ → Option Resident
held m entries set way = option_and_then (λ (e : SliceEntry). left_by m set way e.what) (last_such (λ (e : SliceEntry). decides m set way e.what) entries)

-- (For proofs.) what the last of these entries that decides a place leaves there, where one does
abbrev pub decided : Shape → List SliceEntry → ℕ → ℕ → Option (Option Resident)
decided m entries set way = option_map (λ (e : SliceEntry). left_by m set way e.what) (last_such (λ (e : SliceEntry). decides m set way e.what) entries)

-- whether this uses a place: an access there, hit or fill, or a lock that loads it
abbrev pub uses : Shape → ℕ → ℕ → What → Bool
uses m set way (Access hit at owner rmid mask line) = (line % m.sets == set) && (at == way)
uses m set way Raise = false
uses m set way Flush = false
uses m set way (Lock mask first_line) = has_way mask way
uses m set way (Look rmid lines) = false
uses m set way (Drop line at) = false

-- when a place was last used
abbrev pub used : Shape → List SliceEntry → ℕ → ℕ → ℕ
used m entries set way = last_place (λ (e : SliceEntry). uses m set way e.what) entries

-- whether this sets the floor
abbrev pub sets_floor : What → Bool
sets_floor (Access hit at owner rmid mask line) = false
sets_floor Raise = true
sets_floor Flush = true
sets_floor (Lock mask first_line) = true
sets_floor (Look rmid lines) = false
sets_floor (Drop line at) = false

-- the greatest epoch of a raise, a flush or a lock, and 0 where there is none
abbrev pub floor_of : List SliceEntry → ℕ
floor_of [] = 0
floor_of (e ∷ es) = max (if sets_floor e.what then e.epoch else 0) (floor_of es)

-- whether a place holds a line with this RMID
abbrev pub is_of : ℕ → Option Resident → Bool
is_of rmid None = false
is_of rmid (Some r) = r.rmid == rmid

-- how many places of the slice's sets pass the test with what they hold
abbrev pub places_where : Shape → (Option Resident → Bool) → List SliceEntry → ℕ
places_where m p entries = sum_below m.sets (λ set. if is_own m set then sum_below m.ways (λ way. one_if (p (held m entries set way))) else 0)

-- how many places hold a line with this RMID
abbrev pub lines_of : Shape → List SliceEntry → ℕ → ℕ
lines_of m entries rmid = places_where m (is_of rmid) entries

-- how many places hold a line
abbrev pub valid_of : Shape → List SliceEntry → ℕ
valid_of m entries = places_where m (λ o. is_some o) entries

-- What may follow these entries. An access of an epoch below the floor is stale, and makes no entry. A hit or fill is what
-- the set answers; a look tells the number of lines, and a drop the way that held its line.
abbrev pub MayHappen : Shape → List SliceEntry → ℕ → What → Type 0
MayHappen m before epoch (Access hit way owner rmid mask line) =
    (floor_of before ≤ epoch) × IsOutcome m.ways mask (held m before (line % m.sets)) (used m before (line % m.sets)) line hit way
MayHappen m before epoch Raise = floor_of before ≤ epoch
MayHappen m before epoch Flush = floor_of before ≤ epoch
MayHappen m before epoch (Lock mask first_line) = floor_of before ≤ epoch
MayHappen m before epoch (Look rmid lines) = lines ≡ lines_of m before rmid
MayHappen m before epoch (Drop line at) = (floor_of before ≤ epoch) × IsPlaceOf m.ways (held m before (line % m.sets)) line at

-- an entry that may follow these
abbrev pub EntryMayFollow : Shape → List SliceEntry → SliceEntry → Type 0
EntryMayFollow m before e = MayHappen m before e.epoch e.what

-- the entries are a legal history of this slice
abbrev pub IsLegal : Shape → List SliceEntry → Type 0
IsLegal m entries = EachFollows (EntryMayFollow m) entries
