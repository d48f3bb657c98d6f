use Rattle.std.proofs.Common.{◌≡◌, ◌∙◌, ap, sym, arith, length, slice_index}
use Rattle.occupancy.proofs.Numbers.{sum_below-none, get_or-none}
use Rattle.occupancy.proofs.laws.Zeros.{get_or-zeros}
use Rattle.occupancy.proofs.counts.Counts.clear.Goals as goal

pub invariant_of-self : goal.invariant_of-self
invariant_of-self c = sum_below-none (length c.fill.new.self.items) (slice_index c.fill.new.self.items) (λ r. ap (λ ys. slice_index ys r) (c.fill.ensures.items (λ y h. h)) ∙ get_or-zeros _ r)

pub returns-else-self-gt0-clause-none : goal.returns-else-self-gt0-clause-none
returns-else-self-gt0-clause-none c r =
    let none : 0 ≡ c.self.inside.total = omega (arith, c.if-self-gt0.false) in
    ap (λ ys. slice_index ys r) (sym c.self.view_is) ∙ get_or-none c.self.inside.each.items (none ∙ c.self.invariant) r
