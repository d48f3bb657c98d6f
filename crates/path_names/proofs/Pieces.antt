-- Texts that grow by pieces.
use Rattle.std.proofs.Common.{◌≡◌, ℕ, ◌++◌, List, Result, Ok, Err, OnOk, ap, ◌∙◌, append_assoc}

-- two pieces, one after the other
pub OnOk-append : {T E : Type 0} (r : Result T E) (old first mid second new : List ℕ) → mid ≡ old ++ first → OnOk r (new ≡ mid ++ second) → OnOk r (new ≡ old ++ (first ++ second))
OnOk-append (Ok x) old first mid second new e h = h ∙ ap (λ (xs : List ℕ). xs ++ second) e ∙ append_assoc old first second
OnOk-append (Err x) old first mid second new e h = tt
