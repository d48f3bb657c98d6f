-- Powers of two.
use Rattle.std.proofs.Common.{◌≡◌, ℕ, zero, suc, ◌+◌, ◌-◌, ◌*◌, ◌/◌, ◌%◌, ◌^◌, ◌<◌, ◌≤◌, count_ones, inl, inr, refl, sym, ap, ◌∙◌, arith, pow-suc, zero-add}
use Rattle.std.proofs.lemmas.Bool.{cases_lt}
use Rattle.std.proofs.lemmas.Nat.{pow-add, zero_from_ones}
use Rattle.std.proofs.Math.Pow.{pow-lt}
use lib.Count.{ones, ones_step}

-- zero has no bit, so not one
pub count_ones-zero_not_one : count_ones 0 ≡ 1 → ⊥
unfolding ones
count_ones-zero_not_one e = absurd cc

-- of the numbers up to a limit, one with one bit is a power of two
count_ones-one_below : (d n : ℕ) → n ≤ d → count_ones n ≡ 1 → (k : ℕ) × (n ≡ 2 ^ k)
count_ones-one_below zero n le one = absurd (count_ones-zero_not_one (let z : n ≡ 0 = omega arith in sym (ap count_ones z) ∙ one))
count_ones-one_below (suc d) n le one = lowest (n % 2) (bit n) refl (sym (ones_step n) ∙ one) (count_ones-one_below d (n / 2))
  where
    bit : (m : ℕ) → m % 2 < 2
    bit m = omega arith

    doubled : (k : ℕ) → n / 2 ≡ 2 ^ k → 0 ≡ n % 2 → n ≡ 2 ^ suc k
    doubled k half even = omega (arith, half, pow-suc 2 k)

    lowest : (b : ℕ) → b < 2 → b ≡ n % 2 → b + count_ones (n / 2) ≡ 1 → (n / 2 ≤ d → count_ones (n / 2) ≡ 1 → (k : ℕ) × (n / 2 ≡ 2 ^ k)) → (k : ℕ) × (n ≡ 2 ^ k)
    lowest zero lt e count more =
        let p = more (omega arith) (sym (zero-add (count_ones (n / 2))) ∙ count) in
        (suc p.0, doubled p.0 p.1 e)
    lowest (suc zero) lt e count more = (0, (let half : n / 2 ≡ 0 = zero_from_ones (n / 2) (omega arith) in omega arith))
    lowest (suc (suc b)) lt e count more = absurd (omega arith)

-- a number with one bit is a power of two
pub count_ones-one : (n : ℕ) → count_ones n ≡ 1 → (k : ℕ) × (n ≡ 2 ^ k)
count_ones-one n one = count_ones-one_below n n (omega arith) one

-- of two powers of two the lesser divides the greater
pub pow-divides : (a b : ℕ) → 2 ^ b ≤ 2 ^ a → 2 ^ a ≡ 2 ^ (a - b) * 2 ^ b
pow-divides a b le = elim (cases_lt a b) [
  | inl lt ↦ absurd (over (pow-lt {i = a} {j = b} lt))
  | inr ge ↦ (let sum : a ≡ (a - b) + b = omega arith in ap (λ (k : ℕ). 2 ^ k) sum ∙ pow-add 2 (a - b) b)
]
  where
    over : 2 ^ a < 2 ^ b → ⊥
    over lt = omega arith
