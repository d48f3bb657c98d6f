-- The sets of a slice as flat vectors keep them: the ways of set s stand from s * ways on.
-- (For functions and proofs: no promise of the program stands on it.)
use Rattle.std.specs.Prelude.{◌≡◌, ℕ, ◌+◌, ◌*◌, ◌≤◌, List, length, map, Option, Some, None, if◌then◌else◌, slice_index}
use Rattle.std.specs.List.{range_with_len}
use Rattle.cbm.specs.Masks.{has_way}
use Rattle.cache_core.specs.declared.cached_line.CachedLine.{CachedLine}

-- how many ways a set has, for each set a word of the ways that hold a line, and for each way its line, its stamp and its RMID
pub record Flat : Type 0 where
  pub ways : ℕ
  pub valid : List ℕ
  pub lines : List ℕ
  pub used : List ℕ
  pub rmids : List ℕ

-- what a way of a set holds
abbrev pub flat_place : Flat → ℕ → ℕ → Option CachedLine
flat_place f set way =
    if has_way (slice_index f.valid set) way
    then Some (record { line = slice_index f.lines (set * f.ways + way); rmid = slice_index f.rmids (set * f.ways + way); used = slice_index f.used (set * f.ways + way) })
    else None

-- the ways of a set
unfoldable pub flat_set : Flat → ℕ → List (Option CachedLine)
flat_set f set = map (flat_place f set) (range_with_len 0 f.ways)

-- all sets
unfoldable pub flat_sets : Flat → List (List (Option CachedLine))
flat_sets f = map (flat_set f) (range_with_len 0 (length f.valid))

-- Each way of each set has its line, its stamp and its RMID.
pub record IsFlat (f : Flat) : Type 0 where
  pub limit : f.ways ≤ 32
  pub lines : length f.lines ≡ length f.valid * f.ways
  pub used : length f.used ≡ length f.valid * f.ways
  pub rmids : length f.rmids ≡ length f.valid * f.ways
