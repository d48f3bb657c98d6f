use Rattle.std.proofs.Common.{◌==◌, ap}
use mir.Syntax.{w32}
use Rattle.std.proofs.lemmas.Bool.{eq-eqb}
use Rattle.std.proofs.lemmas.Nat.Bits.{bit_at_set_same, bit_at_set_other}
use Rattle.way_curve.proofs.holes.with_hole.Goals as goal

pub returns-clause-hole : goal.returns-clause-hole
returns-clause-hole c = eq-eqb _ 1 (bit_at_set_same w32 c.args.holes c.args.slot c.requires)

pub returns-clause-others : goal.returns-clause-others
returns-clause-others c k apart = ap (λ b. b == 1) (bit_at_set_other w32 c.args.holes c.args.slot c.requires k apart)
