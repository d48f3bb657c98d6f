use Rattle.std.proofs.Common.{arith}
use Rattle.path_names.proofs.NameKeys.{below-next}
use Rattle.path_names.proofs.name_key.key_of.Goals as goal

pub overflow_mul-key : goal.overflow_mul-key
overflow_mul-key c = omega (arith, below-next c.loop-byte.key c.loop-byte.byte-index c.loop-byte.invariant.below (omega arith))

pub overflow_add-key : goal.overflow_add-key
overflow_add-key c = omega (arith, below-next c.loop-byte.key c.loop-byte.byte-index c.loop-byte.invariant.below (omega arith))
