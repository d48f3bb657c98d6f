use Rattle.std.proofs.Common.{◌==◌, ap}
use mir.Syntax.{w32}
use Rattle.std.proofs.lemmas.Bool.{eq-eqb}
use Rattle.std.proofs.lemmas.Nat.Bits.{bit_at_set_same, bit_at_set_other}
use Rattle.cache_core.proofs.way_bits.with_way.Goals as goal

pub returns-clause-way : goal.returns-clause-way
returns-clause-way c = eq-eqb _ 1 (bit_at_set_same w32 c.args.word c.args.way c.requires)

pub returns-clause-others : goal.returns-clause-others
returns-clause-others c w apart = ap (λ b. b == 1) (bit_at_set_other w32 c.args.word c.args.way c.requires w apart)
