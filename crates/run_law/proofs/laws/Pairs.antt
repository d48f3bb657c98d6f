-- Pairs of numbers, as a thread and the number of an op: tests of both, and when two pairs are the same.
use Rattle.std.proofs.Common.{◌≡◌, ℕ, false, ◌==◌, ◌&&◌, inl, inr, refl}
use Rattle.std.specs.Prelude.{IsTrue}
use Rattle.std.proofs.lemmas.Bool.{cases_Bool, eqb-true, eq-eqb}

-- both hold
pub both_eqb-true : (a b c d : ℕ) → IsTrue ((a == b) && (c == d)) → (a ≡ b) × (c ≡ d)
both_eqb-true a b c d h = elim (cases_Bool (a == b)) [
  | inl e ↦ elim (cases_Bool (c == d)) [
    | inl f ↦ (eqb-true a b e, eqb-true c d f)
    | inr f ↦ absurd (let wrong : ((a == b) && (c == d)) ≡ false = rw (e, f) refl in cc)
  ]
  | inr e ↦ absurd (let wrong : ((a == b) && (c == d)) ≡ false = rw e refl in cc)
]

-- of equal numbers
pub both_eqb-same : (a b c d : ℕ) → a ≡ b → c ≡ d → IsTrue ((a == b) && (c == d))
both_eqb-same a b c d h k = rw (eq-eqb a b h, eq-eqb c d k) refl

-- pairs with the same parts are the same
pub pair-same : (a b : ℕ × ℕ) → a.0 ≡ b.0 → a.1 ≡ b.1 → a ≡ b
pair-same (x, y) (z, w) first second = cc
