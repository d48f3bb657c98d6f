-- A text to which pieces are added one after another.
use Rattle.std.proofs.Common.{◌≡◌, ℕ, List, ◌++◌, ap, ◌∙◌, append_assoc}

-- two pieces
pub append-two : (old now new x y : List ℕ) → now ≡ old ++ x → new ≡ now ++ y → new ≡ old ++ (x ++ y)
append-two old now new x y first next = next ∙ (ap (λ (l : List ℕ). l ++ y) first ∙ append_assoc old x y)

-- three pieces
pub append-three : (old a b new x y z : List ℕ) → a ≡ old ++ x → b ≡ a ++ y → new ≡ b ++ z → new ≡ old ++ (x ++ y ++ z)
append-three old a b new x y z first next last = append-two old b new (x ++ y) z (append-two old a b x y first next) last
