-- The lines of one number of ways more.
use Rattle.std.proofs.Common.{◌≡◌, ℕ, ◌+◌, List, ◌++◌, Option, ap, sym, ◌∙◌, arith}
use Rattle.lists.proofs.Ranges.{flat_map-push, range_with_len-suc}
use Rattle.std.specs.List.{flat_map, range_with_len}
use Rattle.way_curve.specs.CurveTexts.{curve_lines, line_of_ways}

-- one more line at the end of a text
pub curve_lines-suc : (scale : Option ℕ) (sets ways : ℕ) (lines old now new : List ℕ) → now ≡ old ++ curve_lines scale sets ways lines → new ≡ now ++ line_of_ways scale sets lines (ways + 1)
    → new ≡ old ++ curve_lines scale sets (ways + 1) lines
curve_lines-suc scale sets ways lines old now new before more =
    let next : ways + 1 ≡ 1 + ways = omega arith in
    flat_map-push (line_of_ways scale sets lines) (range_with_len 1 ways) (1 + ways) old now new before (more ∙ ap (λ (k : ℕ). now ++ line_of_ways scale sets lines k) next)
    ∙ ap (λ (l : List ℕ). old ++ flat_map (line_of_ways scale sets lines) l) (let same = range_with_len-suc 1 ways in sym same)
