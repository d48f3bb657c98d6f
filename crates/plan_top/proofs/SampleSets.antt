-- The sets of a sample.
use Rattle.std.proofs.Common.{ℕ, ◌<◌, ◌≤◌, ◌/◌, arith}
use Rattle.std.proofs.lemmas.Nat.{le-div}

-- a part of a number that has as many parts at least
pub part_some : (n parts : ℕ) → 0 < parts → parts ≤ n → 0 < n / parts
part_some n parts some few = let one : 1 ≤ n / parts = le-div 1 n parts some (omega arith) in omega (arith, one)
