-- One thread gets further.
use Rattle.std.proofs.Common.{◌≡◌, ℕ, ◌<◌, ◌⊎◌, inl, inr, length, None, refl, sym, subst, arith}
use Rattle.std.specs.Prelude.{◌==◌}
use Rattle.std.proofs.lemmas.Bool.{cases_Bool, eqb-false, eqb-true}
use Rattle.run_law.specs.Ops.{phase_in}
use Rattle.script_ops.specs.Values.{ScriptValue, ops_of}
use Rattle.run_law.specs.Progress.{Progress, moved}
use Rattle.run_law.specs.Growth.{AreInPhase}

-- the thread is there, and each other is where it was
pub where_moved : (at : ℕ → Progress) (t : ℕ) (p : Progress) (u : ℕ) → ((u ≡ t) × (moved at t p u ≡ p)) ⊎ ((u ≡ t → ⊥) × (moved at t p u ≡ at u))
where_moved at t p u = elim (cases_Bool (u == t)) [
  | inl here ↦ inl (eqb-true u t here, rw here refl)
  | inr away ↦ inr (eqb-false u t away, rw away refl)
]

-- the thread that moved
pub moved-own : (at : ℕ → Progress) (t : ℕ) (p : Progress) → moved at t p t ≡ p
moved-own at t p = elim (where_moved at t p t) [ inl here ↦ here.1 | inr away ↦ absurd (away.0 refl) ]

-- what holds of each thread holds moved-holds
pub moved-holds : (Q : ℕ → Progress → Type 0) (at : ℕ → Progress) (t : ℕ) (p : Progress) → (Q t (at t) → Q t p) → (u : ℕ) → Q u (at u) → Q u (moved at t p u)
moved-holds Q at t p go u h = elim (where_moved at t p u) [
  | inl here ↦ subst (λ x. Q u x) (sym here.1) (subst (λ v. Q v p) (sym here.0) (go (subst (λ v. Q v (at v)) here.0 h)))
  | inr away ↦ subst (λ x. Q u x) (sym away.1) h
]

-- what holds now held before
pub moved-held : (Q : ℕ → Progress → Type 0) (at : ℕ → Progress) (t : ℕ) (p : Progress) → (Q t p → Q t (at t)) → (u : ℕ) → Q u (moved at t p u) → Q u (at u)
moved-held Q at t p back u h = elim (where_moved at t p u) [
  | inl here ↦ subst (λ v. Q v (at v)) (sym here.0) (back (subst (λ v. Q v p) here.0 (subst (λ x. Q u x) here.1 h)))
  | inr away ↦ subst (λ x. Q u x) away.1 h
]

-- a thread of the present phase may be anywhere
pub phase_moved : (script : ScriptValue) (at : ℕ → Progress) (phase t : ℕ) (p : Progress) → phase_in script.phases t ≡ phase → AreInPhase script at phase → AreInPhase script (moved at t p) phase
phase_moved script at phase t p here phases = record {
  earlier = λ u less.
      moved-holds (λ u x. phase_in script.phases u < phase → x ≡ (record { next = length (ops_of script u); made = None; tag = None })) at t p (λ _ below. absurd (omega (arith, below, here))) u (phases.earlier u) less;
  later = λ u less.
      moved-holds (λ u x. phase < phase_in script.phases u → x ≡ (record { next = 0; made = None; tag = None })) at t p (λ _ above. absurd (omega (arith, above, here))) u (phases.later u) less;
}
