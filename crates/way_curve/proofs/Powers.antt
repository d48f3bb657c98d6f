-- Numbers that are powers of two.
use Rattle.std.proofs.Common.{◌≡◌, ℕ, ◌-◌, ◌%◌, bit_and, true, ap, sym, ◌∙◌}
use Rattle.std.specs.Int.{is_power_of_two}
use Rattle.std.proofs.lemmas.Nat.{and_mask}
use Rattle.std.proofs.lemmas.Bool.{eqb-true}
use Rattle.lists.proofs.Powers.{count_ones-one}

-- the bits below a power of two are what is left of a number after its division
pub and-below_power : (n power : ℕ) → is_power_of_two power ≡ true → bit_and n (power - 1) ≡ n % power
and-below_power n power is =
    let k = count_ones-one power (eqb-true _ 1 is) in
    ap (λ (p : ℕ). bit_and n (p - 1)) k.1 ∙ (and_mask n k.0 ∙ ap (λ (p : ℕ). n % p) (sym k.1))
