-- Texts that are the same byte for byte.
use Rattle.std.proofs.Common.{◌≡◌, ℕ, true, eqb, List, [], ◌∷◌, refl}
use Rattle.std.proofs.lemmas.Bool.{and_parts}
use Rattle.std.proofs.lemmas.Bool.Decides.{Decides-eqb}
use Rattle.rc_base.specs.Texts.{is_text}

-- they are equal
pub is_text-same : (xs ys : List ℕ) → is_text xs ys ≡ true → xs ≡ ys
unfolding is_text
is_text-same [] [] e = refl
is_text-same [] (c ∷ cs) e = absurd cc
is_text-same (b ∷ bs) [] e = absurd cc
is_text-same (b ∷ bs) (c ∷ cs) e =
    let parts = and_parts (eqb b c) (is_text bs cs) e in
    let first : b ≡ c = (Decides-eqb b c).0 parts.0 in
    let rest : bs ≡ cs = is_text-same bs cs parts.1 in
    cc
