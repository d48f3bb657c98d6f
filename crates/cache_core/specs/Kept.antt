-- What a slice keeps: its own sets, and for each RMID how many of their places hold a line of it.
-- (For functions and proofs: no promise of the program stands on it.)
use Rattle.std.specs.Prelude.{◌≡◌, ℕ, ◌^◌, ◌/◌, ◌<◌, List, [], length, map, Option, if◌then◌else◌, slice_index}
use Rattle.std.specs.List.{range_with_len}
use Rattle.cache_core.specs.declared.cached_line.CachedLine.{CachedLine}
use Rattle.cache_core.specs.Filled.{places_with}
use Rattle.cache_core.specs.Fills.{Resident}
use Rattle.cache_core.specs.History.{Shape, is_own, is_of}
use Rattle.cache_core.specs.Places.{IsFormed, resident_in, set_in}

-- the sets of the domain, of which the slice keeps only its own: set s is number s / slices among them
unfoldable pub spread : Shape → List (List (Option CachedLine)) → List (List (Option CachedLine))
spread m own = map (λ set. if is_own m set then set_in own (set / m.slices) else []) (range_with_len 0 m.sets)

-- the line and RMID of each place
abbrev pub residents : List (List (Option CachedLine)) → ℕ → ℕ → Option Resident
residents places set way = resident_in (set_in places set) way

-- The places are well formed, the slice is one of 2^shift slices, and each count is its RMID's lines.
pub record IsKept (shape : Shape) (rmids clock : ℕ) (own : List (List (Option CachedLine))) (counts : List ℕ) (shift : ℕ) : Type 0 where
  pub formed : IsFormed shape rmids clock (spread shape own)
  pub narrow : shift < 32
  pub inside : shape.slice < shape.slices
  pub power : shape.slices ≡ 2 ^ shift
  pub known : length counts ≡ rmids
  pub counted : (rmid : ℕ) → rmid < rmids → slice_index counts rmid ≡ places_with shape (is_of rmid) (residents (spread shape own))
