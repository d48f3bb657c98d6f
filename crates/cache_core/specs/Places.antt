-- What a cache keeps: for each set a list of places.
-- (For functions and proofs: no promise of the program stands on it.)
use Rattle.std.specs.Prelude.{◌≡◌, ℕ, ◌<◌, List, [], length, Option, None, option_map, if◌then◌else◌, IfSome, slice_index_or}
use Rattle.std.specs.Option.{option_map_or}
use Rattle.cache_core.specs.declared.cached_line.CachedLine.{CachedLine}
use Rattle.cache_core.specs.Fills.{Resident}
use Rattle.cache_core.specs.History.{Shape, is_own}

-- the place of a way
abbrev pub place_in : List (Option CachedLine) → ℕ → Option CachedLine
place_in places way = slice_index_or places way None

-- the line and RMID in a way
abbrev pub resident_in : List (Option CachedLine) → ℕ → Option Resident
resident_in places way = option_map (λ (p : CachedLine). record { line = p.line; rmid = p.rmid }) (place_in places way)

-- when a way was used, and 0 where it is empty
abbrev pub stamp_in : List (Option CachedLine) → ℕ → ℕ
stamp_in places way = option_map_or (λ (p : CachedLine). p.used) (place_in places way) 0

-- What contracts see of a cache: its shape, how many RMIDs its machine has, what each place holds and when it was used,
-- the floor, and how many entries it has made.
pub record CacheValue : Type 0 where
  pub shape : Shape
  pub rmids : ℕ
  pub places : List (List (Option CachedLine))
  pub floor : ℕ
  pub clock : ℕ

-- the places of a set
abbrev pub set_in : List (List (Option CachedLine)) → ℕ → List (Option CachedLine)
set_in places set = slice_index_or places set []

-- each own set has all its ways and another set none, each stamp is below the clock, and each RMID is one of the machine
pub record IsFormed (shape : Shape) (rmids clock : ℕ) (places : List (List (Option CachedLine))) : Type 0 where
  pub count : length places ≡ shape.sets
  pub widths : (set : ℕ) → set < shape.sets → length (set_in places set) ≡ (if is_own shape set then shape.ways else 0)
  pub stamped : (set way : ℕ) → IfSome (place_in (set_in places set) way) (λ p. p.used < clock)
  pub named : (set way : ℕ) → IfSome (place_in (set_in places set) way) (λ p. p.rmid < rmids)
