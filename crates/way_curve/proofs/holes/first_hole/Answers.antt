use Rattle.std.proofs.Common.{◌≡◌, ℕ, ◌==◌, arith, ap, ◌∙◌, inl, inr}
use mir.Syntax.{w32}
use Rattle.std.specs.Int.{bit_at, trailing_zeros}
use Rattle.std.proofs.lemmas.Bool.{cases_lt, eq-eqb}
use Rattle.std.proofs.lemmas.Nat.Bits.{bit_at-trailing_zeros, bit_at-zero}
use Rattle.way_curve.proofs.holes.first_hole.Goals as goal

pub returns-clause-lines : goal.returns-clause-lines
returns-clause-lines c = λ k lt. elim (cases_lt 0 c.args.holes) [
  | inl some ↦
      let low = bit_at-trailing_zeros w32 c.args.holes some (omega arith) in
      ap (λ (b : ℕ). b == 1) (low.2 k (omega (arith, lt)))
  | inr none ↦
      let zero : c.args.holes ≡ 0 = omega (arith, none) in
      ap (λ (n : ℕ). bit_at n k == 1) zero ∙ ap (λ (b : ℕ). b == 1) (bit_at-zero k)
]

pub returns-clause-hole : goal.returns-clause-hole
unfolding lib.Count.count_trailing_zeros
returns-clause-hole c = λ lt. elim (cases_lt 0 c.args.holes) [
  | inl some ↦
      let low = bit_at-trailing_zeros w32 c.args.holes some (omega arith) in
      eq-eqb (bit_at c.args.holes (trailing_zeros w32 c.args.holes)) 1 low.1
  | inr none ↦
      let zero : c.args.holes ≡ 0 = omega (arith, none) in
      let all : trailing_zeros w32 c.args.holes ≡ 32 = ap (λ (n : ℕ). trailing_zeros w32 n) zero in
      absurd (omega (arith, lt, all))
]
