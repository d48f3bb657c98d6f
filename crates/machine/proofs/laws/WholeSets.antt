-- Slices of whole sets: the number of slices divides that of the sets, both being powers of two.
use Rattle.std.proofs.Common.{◌≡◌, ℕ, ◌-◌, ◌*◌, ◌%◌, ◌^◌, ◌≤◌, count_ones, sym, ap, ◌∙◌, arith}
use Rattle.std.proofs.lemmas.Bool.{eqb-true}
use Rattle.std.proofs.lemmas.Nat.Gcd.{dvd_of_mod-eq-zero}
use Rattle.std.proofs.Math.Nat.{mod-mod_of_dvd, mul-mod_left}
use Rattle.lists.proofs.Powers.{count_ones-one, pow-divides}
use Rattle.machine.specs.Ranges.{InRange}
use Rattle.machine.specs.declared.parameters.Parameters.{Parameters}

-- of two powers of two the lesser leaves no rest of the greater
mod-powers : (sets slices a b : ℕ) → sets ≡ 2 ^ a → slices ≡ 2 ^ b → slices ≤ sets → sets % slices ≡ 0
mod-powers sets slices a b sets_is slices_is le =
    let parts : sets ≡ 2 ^ (a - b) * slices = sets_is ∙ pow-divides a b (omega arith) ∙ ap (λ (n : ℕ). 2 ^ (a - b) * n) (sym slices_is) in
    ap (λ (n : ℕ). n % slices) parts ∙ mul-mod_left (2 ^ (a - b)) slices

-- each slice has as many sets
pub mod-sets_slices : (p : Parameters) → InRange p → p.sets % p.slices ≡ 0
mod-sets_slices p r =
    let s = count_ones-one p.sets (eqb-true (count_ones p.sets) 1 r.set_power) in
    let l = count_ones-one p.slices (eqb-true (count_ones p.slices) 1 r.slice_power) in
    mod-powers p.sets p.slices s.0 l.0 s.1 l.1 r.slice_sets

-- the slice of a line, without its set
pub slice_of-set_of : (p : Parameters) → InRange p → (line : ℕ) → line % p.sets % p.slices ≡ line % p.slices
slice_of-set_of p r line = mod-mod_of_dvd p.slices line (dvd_of_mod-eq-zero p.slices (mod-sets_slices p r))
