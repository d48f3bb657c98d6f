-- The sets of a slice that are emptied all at once, and each renewed when it is next touched.
-- (For functions and proofs: no promise of the program stands on it.)
use Rattle.std.specs.Prelude.{◌≡◌, ℕ, ◌+◌, ◌*◌, ◌<◌, ◌≤◌, ◌==◌, List, length, map, Option, None, if◌then◌else◌, slice_index}
use Rattle.std.specs.List.{range_with_len}
use Rattle.cbm.specs.Masks.{has_way}
use Rattle.cache_core.specs.declared.emptied.Emptied.{Emptied}
use Rattle.cache_core.specs.declared.emptied.Emptied.TheVariants.{Flushed, Locked}
use Rattle.cache_core.specs.declared.loading.RegionLoad.{RegionLoad}
use Rattle.cache_core.specs.declared.cached_line.CachedLine.{CachedLine}
use Rattle.cache_core.specs.History.{ways_below}
use Rattle.cache_core.specs.Loads.{loaded}
use Rattle.cache_core.specs.Places.{place_in, set_in}

-- what contracts see: the places of each set, and how often all sets were emptied
pub record LazyValue : Type 0 where
  pub places : List (List (Option CachedLine))
  pub generation : ℕ

-- what a region's load puts in a way of a set of the slice
abbrev pub region_place : RegionLoad → ℕ → ℕ → Option CachedLine
region_place r set way = if has_way r.mask way then loaded (r.first_line + set * r.set_step + ways_below r.mask way * r.way_step) r.stamp else None

-- each way of each set holds what the load of a region puts there
abbrev pub HoldsRegion : RegionLoad → List (List (Option CachedLine)) → List (List (Option CachedLine)) → Type 0
HoldsRegion region old new = (set way : ℕ) → way < length (set_in old set) → place_in (set_in new set) way ≡ region_place region set way

-- each set has as many ways as before
abbrev pub KeepsWidths : List (List (Option CachedLine)) → List (List (Option CachedLine)) → Type 0
KeepsWidths old new = (set : ℕ) → length (set_in new set) ≡ length (set_in old set)

-- what the last emptying, a flush or a lock, leaves in a way of a set
abbrev pub left_place : Emptied → ℕ → ℕ → Option CachedLine
left_place Flushed set way = None
left_place (Locked region) set way = region_place region set way

-- what it leaves in a set of so many ways
unfoldable pub left_set : Emptied → ℕ → ℕ → List (Option CachedLine)
left_set emptied set ways = map (left_place emptied set) (range_with_len 0 ways)

-- the sets: each that was renewed in this generation as it is stored, and another as the last emptying left it
unfoldable pub lazy_sets : Emptied → List (List (Option CachedLine)) → List ℕ → ℕ → List (List (Option CachedLine))
lazy_sets emptied stored renewed generation =
    map (λ set. if slice_index renewed set == generation then set_in stored set else left_set emptied set (length (set_in stored set))) (range_with_len 0 (length stored))

-- each set was renewed in some generation so far
pub record IsLazy (stored : List (List (Option CachedLine))) (renewed : List ℕ) (generation : ℕ) : Type 0 where
  pub count : length renewed ≡ length stored
  pub past : (set : ℕ) → slice_index renewed set ≤ generation
