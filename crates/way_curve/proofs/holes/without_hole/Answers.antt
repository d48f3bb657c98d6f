use Rattle.std.proofs.Common.{◌==◌, ap}
use mir.Syntax.{w32}
use Rattle.std.proofs.lemmas.Nat.Bits.{bit_at_clear_same, bit_at_clear_other}
use Rattle.way_curve.proofs.holes.without_hole.Goals as goal

pub returns-clause-line : goal.returns-clause-line
returns-clause-line c = ap (λ b. b == 1) (bit_at_clear_same w32 c.args.holes c.args.slot c.requires)

pub returns-clause-others : goal.returns-clause-others
returns-clause-others c k below apart = ap (λ b. b == 1) (bit_at_clear_other w32 c.args.holes c.args.slot c.requires k below apart)
