-- What a trace under construction is seen as.
-- (For functions and proofs: no promise of the program stands on it.)
use Rattle.std.specs.Prelude.{ℕ, List}

-- the number that was drawn from last, and the text so far
pub record Making : Type 0 where
  pub last : ℕ
  pub text : List ℕ
