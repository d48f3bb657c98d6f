use Rattle.std.proofs.Common.{arith}
use Rattle.num_text.proofs.laws.Prints.{length-hexadecimal}
use Rattle.file_view.proofs.numbers.push_mask.Goals as goal

pub push-requires : goal.push-requires
push-requires c = omega (arith, c.push_hex.ensures.spare, length-hexadecimal 0 c.from.result c.from.type_inv (omega arith))
