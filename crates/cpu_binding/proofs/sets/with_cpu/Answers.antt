use Rattle.std.proofs.Common.{ap, eqb, w64}
use Rattle.std.proofs.lemmas.Nat.Bits.{bit_at_set_other, bit_at_set_same}
use Rattle.cpu_binding.proofs.sets.with_cpu.Goals as goal

pub returns-clause-same : goal.returns-clause-same
returns-clause-same c = ap (λ n. eqb n 1) (bit_at_set_same w64 c.args.set c.args.cpu c.requires)

pub returns-clause-others : goal.returns-clause-others
returns-clause-others c = λ other differs. ap (λ n. eqb n 1) (bit_at_set_other w64 c.args.set c.args.cpu c.requires other differs)
