use Rattle.std.proofs.Common.{◌==◌, ap}
use mir.Syntax.{w32}
use Rattle.std.proofs.lemmas.Nat.Bits.{bit_at_clear_same, bit_at_clear_other}
use Rattle.cache_core.proofs.way_bits.without_way.Goals as goal

pub returns-clause-way : goal.returns-clause-way
returns-clause-way c = ap (λ b. b == 1) (bit_at_clear_same w32 c.args.word c.args.way c.requires)

pub returns-clause-others : goal.returns-clause-others
returns-clause-others c w below apart = ap (λ b. b == 1) (bit_at_clear_other w32 c.args.word c.args.way c.requires w below apart)
