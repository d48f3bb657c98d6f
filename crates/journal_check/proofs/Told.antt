-- What an answer says of a fact.
use Rattle.std.proofs.Common.{◌≡◌, ◌↔◌, true, false, refl}
use Rattle.std.specs.Prelude.{IsTrue}

-- no
pub is_false : (P : Type 0) → (P → ⊥) → IsTrue false ↔ P
is_false P never = ((λ wrong. absurd (let w : false ≡ true = wrong in cc)), (λ p. absurd (never p)))

-- yes
pub is_true : (P : Type 0) → P → IsTrue true ↔ P
is_true P p = ((λ holds. p), (λ q. refl))
