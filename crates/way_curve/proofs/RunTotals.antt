-- How many uses of a run come at the two distances that there are.
use Rattle.std.proofs.Common.{◌≡◌, ℕ, ◌+◌, ◌-◌, ◌*◌, ◌/◌, ◌%◌, ◌<◌, ◌≤◌, ap, arith}
use Rattle.std.proofs.Math.Nat.{mod-add-div', mod-lt, add-mul}

-- whole rows of sets and a rest
rows-parts : (q r s : ℕ) → r ≤ s → (r * q + r) + (s - r) * q ≡ q * s + r
rows-parts q r s le =
    let whole : r + (s - r) ≡ s = omega arith in
    let split : (r + (s - r)) * q ≡ r * q + (s - r) * q = add-mul r (s - r) q in
    let all : (r + (s - r)) * q ≡ s * q = ap (λ (n : ℕ). n * q) whole in
    omega (arith, split, all)

-- of so many lines in all
pub run-parts : (sets lines : ℕ) → 0 < sets → (lines % sets * (lines / sets) + lines % sets) + (sets - lines % sets) * (lines / sets) ≡ lines
run-parts sets lines some =
    let below : lines % sets < sets = mod-lt lines some in
    omega (arith, rows-parts (lines / sets) (lines % sets) sets (omega arith), mod-add-div' lines sets)
