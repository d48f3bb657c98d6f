use Rattle.std.proofs.Common.{◌+◌, arith}
use Rattle.way_plans.proofs.Powers.{pow-le, shl-small}
use Rattle.way_plans.proofs.masks.mask_of.Goals as goal

pub overflow_sub-result : goal.overflow_sub-result
overflow_sub-result c =
    let first = c.args.span.first in
    let end = first + c.args.span.count in
    let low = shl-small first (omega (arith, c.requires)) in
    let high = shl-small end (omega (arith, c.requires)) in
    let le = pow-le first end (omega arith) in
    omega (arith, low, high, le)
