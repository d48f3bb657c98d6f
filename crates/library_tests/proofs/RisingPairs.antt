-- Two numbers that rise.
use Rattle.std.proofs.Common.{ℕ, zero, suc, ◌<◌, [], ◌∷◌, arith}
use Rattle.std.specs.List.{AllPairs}

-- the first is less than the second
pub AllPairs-two : (a b : ℕ) → a < b → AllPairs (λ (x y : ℕ). x < y) (a ∷ b ∷ [])
AllPairs-two a b less zero zero d lt within = absurd (omega (arith, lt))
AllPairs-two a b less zero (suc zero) d lt within = less
AllPairs-two a b less zero (suc (suc j)) d lt within = absurd (omega (arith, within))
AllPairs-two a b less (suc i) zero d lt within = absurd (omega (arith, lt))
AllPairs-two a b less (suc i) (suc zero) d lt within = absurd (omega (arith, lt))
AllPairs-two a b less (suc i) (suc (suc j)) d lt within = absurd (omega (arith, within))
