-- Texts of reasons are short.
use Rattle.std.proofs.Common.{◌≡◌, ℕ, ◌-◌, ◌^◌, ◌<◌, ◌≤◌, false, length, refl, subst, arith}
use Rattle.std.specs.Fmt.{digits}
use Rattle.num_text.specs.Printed.{filled, hexadecimal}
use Rattle.num_text.proofs.laws.Prints.{length-filled}

-- a number filled to width 0 has no zeros in front
pub hexadecimal-zero_width : (n : ℕ) → hexadecimal 0 n ≡ digits 16 false n
unfolding filled
hexadecimal-zero_width n = let none : 0 - length (digits 16 false n) ≡ 0 = omega arith in rw none refl

-- a number of 64 bits has at most 16 digits
pub length-digits : (n : ℕ) → n < 2 ^ 64 → length (digits 16 false n) ≤ 20
length-digits n small =
    let few : length (hexadecimal 0 n) ≤ 16 = length-filled 16 15 0 n (omega arith) (omega arith) (omega arith) (omega arith) in
    let same : length (digits 16 false n) ≤ 16 = subst (λ t. length t ≤ 16) (hexadecimal-zero_width n) few in
    omega (arith, same)
