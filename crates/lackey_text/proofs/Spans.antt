-- Lines from one on, up to the line before another.
use Rattle.std.proofs.Common.{◌≡◌, ℕ, suc, ◌+◌, ◌-◌, ◌<◌, ◌≤◌, Bool, [], ◌∷◌, refl, arith}
use Rattle.lackey_text.specs.Uses.{uses_between}

-- no line is left
pub uses_between-end : (code : Bool) (next end : ℕ) → end ≤ next → uses_between code next end ≡ []
uses_between-end code next end h = let none : end - next ≡ 0 = omega (arith, h) in rw none refl

-- a line is left
pub uses_between-next : (code : Bool) (next end : ℕ) → next < end → uses_between code next end ≡ record { line = next; code = code } ∷ uses_between code (next + 1) end
uses_between-next code next end h = let more : end - next ≡ suc (end - (next + 1)) = omega (arith, h) in rw more refl

pub ruleset spans = (uses_between-end, uses_between-next)
