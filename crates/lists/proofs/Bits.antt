-- The bits of numbers that are shifted or cut off.
use Rattle.std.proofs.Common.{◌≡◌, ℕ, ◌+◌, ◌*◌, ◌/◌, ◌%◌, ◌^◌, ◌<◌, sym, ap, ◌∙◌, arith}
use Rattle.std.specs.Int.{bit_at}
use Rattle.std.proofs.lemmas.Nat.{pow_pos}
use Rattle.std.proofs.lemmas.Nat.Bits.{bit_at_cat_low}
use Rattle.std.proofs.Math.Nat.{lt-mul-div-succ}
use lib.Pow.{shr-shr}

-- a shifted number has the bits from there on
pub bit_at-div_pow : (n low k : ℕ) → bit_at (n / 2 ^ low) k ≡ bit_at n (low + k)
bit_at-div_pow n low k = ap (λ (m : ℕ). m % 2) (shr-shr n low k)

-- the part of a number below a bit has the bits below it
pub bit_at-mod_pow : (n end k : ℕ) → k < end → bit_at (n % 2 ^ end) k ≡ bit_at n k
bit_at-mod_pow n end k lt =
    let parts : n / 2 ^ end * 2 ^ end + n % 2 ^ end ≡ n = omega arith in
    sym (ap (λ (m : ℕ). bit_at m k) (sym parts) ∙ bit_at_cat_low (n / 2 ^ end) end (n % 2 ^ end) k lt)

-- a number with no bit from one on is below its power
pub div_pow-zero : (n k : ℕ) → n / 2 ^ k ≡ 0 → n < 2 ^ k
div_pow-zero n k h = let up : n < 2 ^ k * (0 + 1) = rw h at (lt-mul-div-succ n (pow_pos k)) in omega arith
