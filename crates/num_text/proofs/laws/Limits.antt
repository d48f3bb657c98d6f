-- Numbers below a limit.
use Rattle.std.proofs.Common.{◌≡◌, ℕ, ◌<◌, Bool, true, false, cond, ltb, Option, None, Some, refl, subst}
use Rattle.std.proofs.lemmas.Bool.{ltb-true}
use Rattle.num_text.specs.Numbers.{below}

-- what passed the limit is below it
pub below-lt : (limit : ℕ) (o : Option ℕ) (n : ℕ) → below limit o ≡ Some n → n < limit
below-lt limit None n e = absurd (let g : None ≡ Some n = e in cc)
below-lt limit (Some x) n e = at (ltb x limit) refl e
  where
    at : (b : Bool) → ltb x limit ≡ b → cond b (Some x) None ≡ Some n → n < limit
    at true is f = let same : x ≡ n = (let g : Some x ≡ Some n = f in cc) in subst (λ (k : ℕ). k < limit) same (ltb-true x limit is)
    at false is f = absurd (let g : None ≡ Some n = f in cc)
