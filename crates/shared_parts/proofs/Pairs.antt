-- An event that happens to the one part of one seat and to the parts of another.
use Rattle.std.proofs.Common.{◌≡◌, ℕ, List, [], ◌∷◌, ◌++◌, length, refl, sym, ◌∙◌, ap, arith}
use Rattle.shared_parts.specs.Parts.{AreApart, first_of, has, parts_after, rest_of}
use Rattle.shared_parts.proofs.laws.Parts.{has-parts_after}

module _ {E P : Type 0} (after : E → ℕ → P → P) (e : E) where
  -- the first of both's parts is the one
  pub first_of-parts_after : (one xs : List (ℕ × P)) → length one ≡ 1 → first_of (parts_after after e (one ++ xs)) ≡ parts_after after e one
  first_of-parts_after [] xs is = absurd (omega (arith, is))
  first_of-parts_after (x ∷ []) xs is = refl
  first_of-parts_after (x ∷ y ∷ ys) xs is = absurd (omega (arith, is))

  -- and the rest are the other's
  pub rest_of-parts_after : (one xs : List (ℕ × P)) → length one ≡ 1 → rest_of (parts_after after e (one ++ xs)) ≡ parts_after after e xs
  rest_of-parts_after [] xs is = absurd (omega (arith, is))
  rest_of-parts_after (x ∷ []) xs is = refl
  rest_of-parts_after (x ∷ y ∷ ys) xs is = absurd (omega (arith, is))

  -- they are apart as they were
  pub AreApart-parts_after : (one xs : List (ℕ × P)) → length one ≡ 1 → AreApart one xs → AreApart (first_of (parts_after after e (one ++ xs))) (rest_of (parts_after after e (one ++ xs)))
  AreApart-parts_after one xs is apart k h =
      ap (has k) (rest_of-parts_after one xs is)
      ∙ (has-parts_after after e k xs ∙ apart k (sym (ap (has k) (first_of-parts_after one xs is) ∙ has-parts_after after e k one) ∙ h))
