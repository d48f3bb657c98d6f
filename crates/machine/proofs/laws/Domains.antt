-- The domains of CPUs.
use Rattle.std.proofs.Common.{ℕ, ◌*◌, ◌<◌, arith}
use Rattle.std.proofs.lemmas.Nat.{div_below, row_fits}
use Rattle.machine.specs.Maps.{domain_of}
use Rattle.machine.specs.Ranges.{InRange}
use Rattle.machine.specs.declared.parameters.Parameters.{Parameters}

-- the domain of a CPU is one of the machine
pub domain_of-lt : (m : Parameters) (cpu : ℕ) → InRange m → cpu < m.cpus → domain_of m cpu < m.domains
domain_of-lt m cpu range there = div_below (cpu * m.domains) m.cpus m.domains (omega (arith, there)) (omega (arith, row_fits cpu m.domains m.cpus m.domains there (omega arith), range.some_domain))
