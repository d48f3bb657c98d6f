use Rattle.std.proofs.Common.{arith}
use Rattle.file_view.proofs.numbers.push_number.Goals as goal
use Rattle.num_text.proofs.laws.Prints.{length-decimal}

pub push-requires : goal.push-requires
push-requires c = omega (arith, c.push_dec.ensures.spare, length-decimal c.args.n c.ranges.n.fits)
