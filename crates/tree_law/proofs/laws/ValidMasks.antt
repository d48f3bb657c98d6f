-- Masks that are valid.
use Rattle.std.proofs.Common.{◌≡◌, ℕ, zero, suc, ◌/◌, ◌^◌, ◌<◌, Result, Ok, Err, refl, ◌∙◌, arith}
use Rattle.std.proofs.Math.Pow.{pow_pos}
use Rattle.cbm.proofs.laws.Validity.{checked-past}
use Rattle.lists.proofs.Bits.{div_pow-zero}
use Rattle.cbm.specs.Validity.{checked}
use Rattle.cbm.specs.declared.fault.CbmFault.{CbmFault}
use Rattle.cbm.specs.declared.fault.CbmFault.TheVariants.{Range}
use Rattle.cbm.specs.declared.geometry.Geometry.{Geometry}
use Rattle.machine.specs.Ranges.{InRange}
use Rattle.machine.specs.declared.parameters.Parameters.{Parameters}
use Rattle.machine.proofs.laws.EveryWay.{checked-ones}
use Rattle.tree_law.specs.Masks.{IsValid}
use Rattle.tree_law.specs.Space.{geometry_of}
use Rattle.group_tree.specs.Opening.{full_mask}

-- a mask of 64 bits without a fault has no way past the last
checked-bounded : (g : Geometry) (mask : ℕ) → mask < 2 ^ 64 → checked g mask ≡ Ok mask → mask < 2 ^ g.len
checked-bounded g mask small is = at (mask / 2 ^ g.len) refl
  where
    at : (n : ℕ) → mask / 2 ^ g.len ≡ n → mask < 2 ^ g.len
    at zero e = div_pow-zero mask g.len e
    at (suc n) e = (let fault = checked-past g mask small (λ none. omega arith) in
        let bad : ◌≡◌ {A = Result ℕ CbmFault} (Err Range) (Ok mask) = fault ∙ is in absurd (let f = bad in cc))

-- a mask of 64 bits without a fault is valid
pub IsValid-checked : (m : Parameters) (mask : ℕ) → mask < 2 ^ 64 → checked (geometry_of m) mask ≡ Ok mask → IsValid m mask
IsValid-checked m mask small is = record { faultless = is; bounded = checked-bounded (geometry_of m) mask small is }

-- the mask with every way is valid
pub IsValid-full_mask : (m : Parameters) → InRange m → IsValid m (full_mask m)
IsValid-full_mask m range = record { faultless = checked-ones (geometry_of m) range.some_way range.way_limit range.min_limit; bounded = omega (arith, pow_pos m.ways) }
