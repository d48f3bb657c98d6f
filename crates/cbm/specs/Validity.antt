-- Which masks are valid, and the first fault of one that is not.
use Rattle.std.specs.Prelude.{ℕ, Bool, ◌||◌, ◌&&◌, not, ◌==◌, nat_lt, nat_le, List, length, Result, Ok, Err, if◌then◌else◌}
use Rattle.std.specs.List.{list_any}
use Rattle.cbm.specs.Masks.{ways_of, lowest_run}
use Rattle.cbm.specs.declared.fault.CbmFault.{CbmFault}
use Rattle.cbm.specs.declared.fault.CbmFault.TheVariants.{Range, Gaps, TooFew}
use Rattle.cbm.specs.declared.geometry.Geometry.{Geometry}

-- no way at all, or one that does not exist
abbrev pub is_out_of_range : Geometry → List ℕ → Bool
is_out_of_range g ways = (length ways == 0) || list_any (nat_le g.len) ways

-- not every way from the least to the greatest is there: the lowest run is not the whole
abbrev pub has_gaps : List ℕ → Bool
has_gaps ways = nat_lt (length (lowest_run ways)) (length ways)

-- the lowest run is too short
abbrev pub is_too_few : Geometry → List ℕ → Bool
is_too_few g ways = nat_lt (length (lowest_run ways)) g.min

-- a mask of these ways, or its first fault
abbrev pub checked_ways : Geometry → ℕ → List ℕ → Result ℕ CbmFault
checked_ways g mask ways =
    if is_out_of_range g ways then Err Range else
    if not g.sparse && has_gaps ways then Err Gaps else
    if is_too_few g ways then Err TooFew else Ok mask

-- the mask, or its first fault
unfoldable pub checked : Geometry → ℕ → Result ℕ CbmFault
checked g mask = checked_ways g mask (ways_of mask)
