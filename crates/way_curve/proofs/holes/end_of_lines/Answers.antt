use Rattle.std.proofs.Common.{◌≡◌, ℕ, ◌-◌, arith}
use mir.Syntax.{w32}
use Rattle.std.specs.Int.{bit_at, bit_not}
use Rattle.std.proofs.lemmas.Bool.{eq-eqb}
use Rattle.std.proofs.lemmas.Nat.{leading_length}
use Rattle.std.proofs.lemmas.Nat.Bits.{bit_at-lt, bit_at_above, bit_at_not}
use Rattle.way_curve.proofs.holes.end_of_lines.Goals as goal

pub returns-clause-holes : goal.returns-clause-holes
returns-clause-holes c = λ k le lt.
    let lines : ℕ = bit_not w32 c.args.holes in
    let size = leading_length 32 lines (omega arith) in
    let none : bit_at lines k ≡ 0 = bit_at_above lines size.0 k size.2 (omega (arith, le, size.1)) in
    let turned : bit_at lines k ≡ 1 - bit_at c.args.holes k = bit_at_not w32 c.args.holes k (omega arith) lt in
    eq-eqb (bit_at c.args.holes k) 1 (omega (arith, none, turned, bit_at-lt c.args.holes k))
