-- The parts of two shares are apart.
use Rattle.std.proofs.Common.{◌≡◌, inl, inr, ℕ, ◌==◌, false, List, [], ◌∷◌, sym, ◌∙◌, subst}
use Rattle.std.proofs.lemmas.Bool.{true≢false}
use Rattle.schedule_law.specs.declared.part.Part.{Part}
use Rattle.shared_parts.proofs.laws.Parts.{has-cases, has-later}
use Rattle.shared_parts.specs.Parts.{AreApart, has}

-- one part, and those of other numbers
AreApart-one : (x : ℕ × Part) (ys : List (ℕ × Part)) → has x.0 ys ≡ false → AreApart (x ∷ []) ys
AreApart-one x ys free k h = elim (has-cases k x [] h) [
  | inl e ↦ subst (λ n. has n ys ≡ false) e free
  | inr more ↦ absurd (true≢false (sym more))
]

-- one part, and one of another number
pub AreApart-two : (x y : ℕ × Part) → (y.0 == x.0) ≡ false → AreApart (x ∷ []) (y ∷ [])
AreApart-two x y other = AreApart-one x (y ∷ []) (has-later x.0 y [] other)

-- one part, and two of other numbers
pub AreApart-three : (x y z : ℕ × Part) → (y.0 == x.0) ≡ false → (z.0 == x.0) ≡ false → AreApart (x ∷ []) (y ∷ z ∷ [])
AreApart-three x y z other third = AreApart-one x (y ∷ z ∷ []) (has-later x.0 y (z ∷ []) other ∙ has-later x.0 z [] third)
