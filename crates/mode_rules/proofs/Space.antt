-- Whether ways have space for a new group.
use Rattle.std.proofs.Common.{◌≡◌, ◌≢◌, ℕ, ◌^◌, ◌<◌, ◌≤◌, Bool, true, false, ◌||◌, eqb, cond, List, [], length, Option, Some, None, sym, ap, refl, arith}
use Rattle.std.proofs.lemmas.Bool.{lt-ltb, le-ltb, ne_eqb}
use Rattle.cbm.specs.declared.geometry.Geometry.{Geometry}
use Rattle.cbm.specs.Masks.{has_way, lowest_run, ways_of}
use Rattle.cbm.specs.Validity.{is_too_few}
use Rattle.cbm.proofs.laws.Ways.{has_way-from}
use Rattle.lists.proofs.Filters.{length-filter_some}
use Rattle.mode_rules.specs.StartingWays.{granted_ways, space_in}

-- a mask that is not 0 has a way
pub length-ways_of : (mask : ℕ) → mask < 2 ^ 64 → mask ≢ 0 → 0 < length (ways_of mask)
unfolding ways_of
length-ways_of mask small ne =
    let w = has_way-from mask 0 small (λ none. ne (omega arith)) in
    length-filter_some (has_way mask) 0 64 w.0 (omega arith) (omega (arith, w.2)) w.3

-- no way
pub space_in-none : (g : Geometry) (ways : List ℕ) → ways ≡ [] → None ≡ space_in g ways
space_in-none g ways e = ap (space_in g) (sym e)

-- a lowest run that is too short
pub space_in-few : (g : Geometry) (ways : List ℕ) → length (lowest_run ways) < g.min → None ≡ space_in g ways
space_in-few g ways lt = either (eqb (length ways) 0) (is_too_few g ways) (lt-ltb (length (lowest_run ways)) g.min lt) _
  where
    either : (a b : Bool) → b ≡ true → (x : Option (List ℕ)) → None ≡ cond (a || b) None x
    either true b e x = refl
    either false true e x = refl
    either false false e x = absurd cc

-- a lowest run that is long enough
pub space_in-some : (g : Geometry) (ways : List ℕ) → 0 < length ways → g.min ≤ length (lowest_run ways) → space_in g ways ≡ Some (granted_ways g ways)
space_in-some g ways some le = rw (ne_eqb (length ways) 0 (omega arith), le-ltb (length (lowest_run ways)) g.min le) refl
