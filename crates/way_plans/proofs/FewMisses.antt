-- No more uses miss than there are.
use Rattle.std.proofs.Common.{◌≡◌, ℕ, ◌<◌, ◌≤◌, List, map, get_or, zero-add, sym, subst, arith}
use Rattle.std.specs.Prelude.{All}
use Rattle.std.specs.List.{range_with_len}
use Rattle.std.proofs.lemmas.List.FromFn.{get_or-map-range_with_len, length-map-range_with_len}
use Rattle.private_lru.specs.declared.item.Item.{Item}
use Rattle.way_curve.specs.ItemCurves.{uses_in}
use Rattle.way_plans.specs.Plans.{misses_of, misses_with}

-- with any number of ways
pub few-misses_of : (sets : ℕ) (items : List Item) (most : ℕ) → uses_in items ≤ most → All (λ (n : ℕ). n ≤ most) (misses_of sets items)
few-misses_of sets items most few = λ k d within.
    let below : k < 33 = subst (λ (n : ℕ). k < n) (length-map-range_with_len (misses_with sets items) 0 33) within in
    let is : get_or (map (misses_with sets items) (range_with_len 0 33)) k d ≡ misses_with sets items k = get_or-map-range_with_len (misses_with sets items) 0 33 k k d below (zero-add k) in
    subst (λ (n : ℕ). n ≤ most) (sym is) (omega (arith, few))
