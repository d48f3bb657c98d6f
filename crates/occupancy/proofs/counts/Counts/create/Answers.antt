use Rattle.std.proofs.Common.{◌∙◌, ap, length, slice_index}
use Rattle.occupancy.proofs.Numbers.{sum_below-none}
use Rattle.occupancy.proofs.laws.Zeros.{get_or-zeros}
use Rattle.occupancy.proofs.counts.Counts.create.Goals as goal

pub invariant_of-result : goal.invariant_of-result
invariant_of-result c = sum_below-none (length c.in_ok-each.each.items) (slice_index c.in_ok-each.each.items) (λ r. ap (λ ys. slice_index ys r) (c.in_ok-each.ensures.items_if_clones_equal (λ y h. h)) ∙ get_or-zeros _ r)
