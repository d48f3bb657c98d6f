-- Powers of two.
use Rattle.std.proofs.Common.{◌≡◌, ℕ, ◌*◌, ◌^◌, ◌%◌, ◌≤◌, arith, ◌∙◌, subst, inl, inr}
use Rattle.std.proofs.lemmas.Bool.{cases_lt}
use Rattle.std.proofs.lemmas.Nat.{pow_below, shl_whole}

-- they rise
pub pow-le : (i j : ℕ) → i ≤ j → 2 ^ i ≤ 2 ^ j
pow-le i j le = elim (cases_lt i j) [
  | inl less ↦ let below = pow_below i j less in omega (arith, below)
  | inr not ↦ let same : i ≡ j = omega (arith, le, not) in subst (λ k. 2 ^ i ≤ 2 ^ k) same (omega arith)
]

-- one, moved to the left by at most 32 bits
pub shl-small : (k : ℕ) → k ≤ 32 → 1 * 2 ^ k % 2 ^ 64 ≡ 2 ^ k
shl-small k le = let whole = shl_whole 1 1 k 64 (omega arith) (omega (arith, le)) in let one : 1 * 2 ^ k ≡ 2 ^ k = omega arith in whole ∙ one
