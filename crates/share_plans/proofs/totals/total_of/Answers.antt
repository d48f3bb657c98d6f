use Rattle.std.proofs.Common.{◌≡◌, ℕ, ◌+◌, ◌*◌, ◌≤◌, All, List, [], ◌∷◌, length, sum, arith}
use Rattle.std.proofs.lemmas.List.Elements.{All-head, All-tail}
use Rattle.std.proofs.lemmas.List.Sums.{sum_by-cons}
use Rattle.share_plans.specs.declared.division_limits.TheConstants.{MOST_USES}
use Rattle.share_plans.proofs.totals.total_of.Goals as goal

-- few numbers that are not great have no great sum
sum-few : (numbers : List ℕ) → All (λ n. n ≤ MOST_USES) numbers → sum numbers ≤ MOST_USES * length numbers
sum-few [] few = omega arith
sum-few (n ∷ numbers) few =
    let first : n ≤ MOST_USES = All-head (λ n. n ≤ MOST_USES) n numbers few in
    let later : sum numbers ≤ MOST_USES * length numbers = sum-few numbers (All-tail (λ n. n ≤ MOST_USES) n numbers few) in
    let all : sum (n ∷ numbers) ≡ n + sum numbers = sum_by-cons (λ (x : ℕ). x) n numbers in
    omega (arith, first, later, all)

pub sum_of-requires : goal.sum_of-requires
sum_of-requires c =
    let few : sum c.args.misses.now ≤ MOST_USES * length c.args.misses.now = sum-few c.args.misses.now c.requires.few in
    omega (arith, few, c.requires.count)
