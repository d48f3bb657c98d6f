use Rattle.std.proofs.Common.{◌≤◌, length, arith}
use Rattle.schemata_text.specs.Printed.{printed}
use Rattle.file_view.proofs.Masks.{length-printed}
use Rattle.file_view.proofs.schemata.push_masks.Goals as goal

pub push-requires : goal.push-requires
push-requires c =
    let short = length-printed c.machine.result.now.ways c.masks_of.result.items (omega (arith, c.machine.result.now.in_range.way_limit)) c.masks_of.ensures.few c.masks_of.ensures.small in
    let same : length (printed c.machine.result.now.ways c.as_slice.result.now) ≤ 107 = rw c.as_slice.ensures.value short in
    omega (arith, c.print.ensures.spare, same)
