-- Sums over the ops of all threads.
use Rattle.std.proofs.Common.{◌≡◌, ℕ, ◌+◌, ◌<◌, List, length, take, get_or, subst, arith}
use Rattle.std.specs.Prelude.{sum_by}
use Rattle.std.proofs.Math.Seq.{take-length}
use Rattle.std.proofs.lemmas.List.Sums.{sum_by_more}

-- the sum of the first k and the next one
pub sum-next : {X : Type 0} (f : X → ℕ) (xs : List X) (k sum : ℕ) (d : X) → k < length xs → sum ≡ sum_by f (take k xs) → sum + f (get_or xs k d) ≡ sum_by f (take (k + 1) xs)
sum-next f xs k sum d below is = omega (arith, is, sum_by_more f xs k d below)

-- of all
pub sum-all : {X : Type 0} (f : X → ℕ) (xs : List X) (k sum : ℕ) → k ≡ length xs → sum ≡ sum_by f (take k xs) → sum ≡ sum_by f xs
sum-all f xs k sum end is = subst (λ ys. sum ≡ sum_by f ys) (take-length xs) (subst (λ n. sum ≡ sum_by f (take n xs)) end is)
