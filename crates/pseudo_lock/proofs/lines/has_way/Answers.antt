use Rattle.std.proofs.Common.{arith, sym, ◌∙◌}
use Rattle.std.proofs.lemmas.Bool.{le-ltb}
use Rattle.pseudo_lock.proofs.Ways.{has_way-above}
use Rattle.pseudo_lock.proofs.lines.has_way.Goals as goal

pub returns-else-from-lt-BITS-clause-way : goal.returns-else-from-lt-BITS-clause-way
returns-else-from-lt-BITS-clause-way c = le-ltb _ _ c.if-from-lt-BITS.false ∙ sym (has_way-above c.args.mask 32 c.args.way (omega arith) (omega arith))
