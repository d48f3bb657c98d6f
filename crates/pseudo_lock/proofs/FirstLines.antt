-- First lines, and the numbers that divide them.
use Rattle.std.proofs.Common.{◌≡◌, ℕ, zero, suc, ◌+◌, ◌*◌, ◌/◌, ◌%◌, ◌^◌, ◌<◌, ◌≤◌, count_ones, refl, sym, ap, ◌∙◌, arith, pow-suc, zero-add}
use Rattle.std.proofs.lemmas.Bool.{eqb-true}
use Rattle.std.proofs.lemmas.Nat.{zero_from_ones}
use Rattle.std.proofs.Math.Nat.{mul-add, mul-mod_left, mul-one, mul_assoc}
use lib.Count.{ones_step}
use Rattle.lists.proofs.Powers.{count_ones-zero_not_one}
use Rattle.machine.specs.Ranges.{InRange}
use Rattle.machine.specs.declared.parameters.Parameters.{Parameters}
use Rattle.pseudo_lock.specs.Regions.{first_line_of}

-- a number with one bit divides each greater power of two
pow-multiple : (k n : ℕ) → n < 2 ^ k → count_ones n ≡ 1 → (c : ℕ) × (2 ^ k ≡ c * n)
pow-multiple zero n lt one = absurd (count_ones-zero_not_one (let none : n ≡ 0 = omega arith in sym (ap count_ones none) ∙ one))
pow-multiple (suc k) n lt one = lowest (n % 2) (bit n) refl (sym (ones_step n) ∙ one) (pow-multiple k (n / 2))
  where
    bit : (m : ℕ) → m % 2 < 2
    bit m = omega arith

    below : n / 2 < 2 ^ k
    below = omega (arith, pow-suc 2 k)

    doubled : (c : ℕ) → 0 ≡ n % 2 → 2 ^ k ≡ c * (n / 2) → 2 ^ suc k ≡ c * n
    doubled c even e =
        let twice : n ≡ n / 2 + n / 2 = omega arith in
        let parts : c * n ≡ c * (n / 2) + c * (n / 2) = ap (λ (m : ℕ). c * m) twice ∙ mul-add c (n / 2) (n / 2) in
        omega (arith, pow-suc 2 k)

    lowest : (b : ℕ) → b < 2 → b ≡ n % 2 → b + count_ones (n / 2) ≡ 1 → (n / 2 < 2 ^ k → count_ones (n / 2) ≡ 1 → (c : ℕ) × (2 ^ k ≡ c * (n / 2))) → (c : ℕ) × (2 ^ suc k ≡ c * n)
    lowest zero two e count more =
        let half = more below (sym (zero-add (count_ones (n / 2))) ∙ count) in
        (half.0, doubled half.0 e half.1)
    lowest (suc zero) two e count more =
        let none : n / 2 ≡ 0 = zero_from_ones (n / 2) (omega arith) in
        let single : 1 ≡ n = omega arith in
        (2 ^ suc k, sym (mul-one (2 ^ suc k)) ∙ ap (λ (m : ℕ). 2 ^ suc k * m) single)
    lowest (suc (suc b)) two e count more = absurd (omega arith)

-- a first line is one of set 0
pub first_line_of-whole : (p : Parameters) → InRange p → (number : ℕ) → first_line_of number % p.sets ≡ 0
first_line_of-whole p r number =
    let rows : ℕ = 2 ^ 35 + number * 2 ^ 15 in
    let limit : p.sets ≤ 65536 = r.set_limit in
    let m = pow-multiple 17 p.sets (omega arith) (eqb-true (count_ones p.sets) 1 r.set_power) in
    let whole : first_line_of number ≡ rows * 2 ^ 17 = omega arith in
    ap (λ (n : ℕ). n % p.sets) (whole ∙ ap (λ (n : ℕ). rows * n) m.1 ∙ sym (mul_assoc rows m.0 p.sets)) ∙ mul-mod_left (rows * m.0) p.sets
