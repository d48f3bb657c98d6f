-- How many sets of a domain a slice has.
use Rattle.std.proofs.Common.{◌≡◌, ℕ, ◌*◌, ◌/◌, ◌%◌, ◌<◌, ◌==◌, cond, ap, ◌∙◌, arith}
use Rattle.std.proofs.lemmas.Nat.{div-add-mod'}
use Rattle.cache_core.specs.History.{Shape, is_own}
use Rattle.lists.specs.Sums.{sum_below}
use Rattle.lists.proofs.Sums.{sum_below-rows}

-- a number for each own set
pub sum_below-is_own : (m : Shape) (w : ℕ) → m.slice < m.slices → m.sets % m.slices ≡ 0 → sum_below m.sets (λ s. cond (is_own m s) w 0) ≡ m.sets / m.slices * w
sum_below-is_own m w inside whole =
    let sets : m.sets ≡ m.sets / m.slices * m.slices = let all = div-add-mod' m.sets m.slices in omega (arith, all, whole) in
    ap (λ n. sum_below n (λ s. cond (s % m.slices == m.slice) w 0)) sets ∙ sum_below-rows (m.sets / m.slices) m.slices m.slice w inside
