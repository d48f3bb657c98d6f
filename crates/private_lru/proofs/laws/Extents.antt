-- How far something is gone over.
use Rattle.std.proofs.Common.{◌≡◌, ℕ, zero, suc, ◌+◌, ◌<◌, ◌≤◌, ◌⊎◌, inl, inr, subst, arith}
use Rattle.std.proofs.lemmas.Bool.{cases_lt, cases_order}

-- from a start on, up to and without this place, each is gone over, and that is not, where it is below a limit
pub record IsExtent (Over : ℕ → Type 0) (start limit to : ℕ) : Type 0 where
  pub begins : start ≤ to
  pub within : to ≤ limit
  pub over : (k : ℕ) → start ≤ k → k < to → Over k
  pub ends : to < limit → Over to → ⊥

pub IsExtent-some : (Over : ℕ → Type 0) → ((k : ℕ) → Over k ⊎ (Over k → ⊥)) → (fuel start limit : ℕ) → start + fuel ≡ limit → (to : ℕ) × IsExtent Over start limit to
IsExtent-some Over either zero start limit is = (start, record { begins = omega arith; within = omega arith; over = λ k low high. absurd (omega arith); ends = λ less o. absurd (omega arith) })
IsExtent-some Over either (suc fuel) start limit is = elim (either start) [
  | inl here ↦
      let rest = IsExtent-some Over either fuel (start + 1) limit (omega arith) in
      let begins = rest.1.begins in (
        rest.0,
        record {
          begins = omega (arith, begins);
          within = rest.1.within;
          over = λ k low high. elim (cases_lt start k) [
            | inl lt ↦ rest.1.over k (omega arith) high
            | inr le ↦ let same : start ≡ k = omega arith in subst Over same here
          ];
          ends = rest.1.ends;
        },
      )
  | inr none ↦ (start, record { begins = omega arith; within = omega arith; over = λ k low high. absurd (omega arith); ends = λ less o. none o })
]

-- there is one
pub IsExtent-same : (Over : ℕ → Type 0) (start limit to other : ℕ) → IsExtent Over start limit to → IsExtent Over start limit other → to ≡ other
IsExtent-same Over start limit to other one two =
    let a = one.begins in let b = two.begins in let c = one.within in let d = two.within in
    elim (cases_order to other) [
      | inl e ↦ e
      | inr (inl lt) ↦ absurd (one.ends (omega (arith, lt, d)) (two.over to a lt))
      | inr (inr lt) ↦ absurd (two.ends (omega (arith, lt, c)) (one.over other b lt))
    ]
