-- The numbers of slices over all domains.
use Rattle.std.proofs.Common.{◌≡◌, ℕ, ◌%◌, ◌<◌, arith}
use Rattle.std.proofs.lemmas.Nat.{mod-mul-add, mul-add-lt, div-mul-add, mod_below}
use Rattle.machine.specs.Slices.{slice_count, slice_number, domain_in, slice_of_line}
use Rattle.machine.specs.declared.parameters.Parameters.{Parameters}
use Rattle.machine.specs.Maps.{set_of, slice_of}

-- a slice of a domain that is there has a number below their count
pub slice_number-lt : (p : Parameters) (domain slice : ℕ) → domain < p.domains → slice < p.slices → slice_number p domain slice < slice_count p
slice_number-lt p domain slice there below = omega (arith, mul-add-lt domain p.slices slice p.domains there below)

-- the number of a slice in its domain
pub slice_number-mod : (p : Parameters) (domain slice : ℕ) → slice < p.slices → slice_number p domain slice % p.slices ≡ slice
slice_number-mod p domain slice below = mod-mul-add domain p.slices slice below

-- the domain of a slice of a domain
pub domain_in-slice_of_line : (m : Parameters) (domain line : ℕ) → 0 < m.slices → domain_in m (slice_of_line m domain line) ≡ domain
domain_in-slice_of_line m domain line some = div-mul-add domain m.slices (slice_of m (set_of m line)) (mod_below (set_of m line) m.slices some)
