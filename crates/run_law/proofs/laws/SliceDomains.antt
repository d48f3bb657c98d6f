-- The slices of one domain.
use Rattle.std.proofs.Common.{◌≡◌, ℕ, ◌+◌, ◌*◌, ◌<◌, ◌≤◌, arith}
use Rattle.std.proofs.lemmas.Nat.{div_below, le-div}
use Rattle.machine.specs.Slices.{domain_in}
use Rattle.machine.specs.declared.parameters.Parameters.{Parameters}

-- a slice among those of a domain is of the domain
pub of_domain : (m : Parameters) (domain i : ℕ) → 0 < m.slices → domain * m.slices ≤ i → i < domain * m.slices + m.slices → domain_in m i ≡ domain
of_domain m domain i some from below = omega (arith, le-div domain i m.slices some from, div_below i m.slices (domain + 1) some (omega arith))
