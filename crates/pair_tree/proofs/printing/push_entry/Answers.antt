use Rattle.std.proofs.Common.{◌≤◌, ◌∷◌, length, decimal, arith, length-append}
use Rattle.num_text.specs.Printed.{hexadecimal}
use Rattle.schemata_text.specs.Printed.{mask_digits}
use Rattle.num_text.proofs.laws.Prints.{length-decimal_byte}
use Rattle.schemata_text.proofs.laws.Entries.{length-hexadecimal_mask}
use Rattle.pair_tree.proofs.printing.push_entry.Goals as goal

pub push-requires : goal.push-requires
push-requires c =
    let short : length (decimal c.from.result) ≤ 3 = rw c.from.ensures (length-decimal_byte c.args.domain c.ranges.domain.fits) in
    omega arith

pub push_hex-requires-clause-room : goal.push_hex-requires-clause-room
push_hex-requires-clause-room c =
    let short : length (decimal c.from.result) ≤ 3 = rw c.from.ensures (length-decimal_byte c.args.domain c.ranges.domain.fits) in
    omega arith

pub returns-clause-short : goal.returns-clause-short
returns-clause-short c =
    let short = length-decimal_byte c.args.domain c.ranges.domain.fits in
    let narrow = length-hexadecimal_mask c.args.ways c.args.mask c.requires.ways c.ranges.mask.fits in
    omega (arith, length-append (decimal c.args.domain) (61 ∷ hexadecimal (mask_digits c.args.ways) c.args.mask))
