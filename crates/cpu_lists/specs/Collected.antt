-- What a reader keeps of the numbers so far.
-- (For functions and proofs: no promise of the program stands on it.)
use Rattle.std.specs.Prelude.{◌≡◌, ℕ, ◌-◌, ◌^◌, ◌<◌, ◌≤◌, min, Bool, true, false, List, Option, Some, None, IsSomeAnd}
use Rattle.cpu_lists.specs.declared.numbers.Numbers.{Numbers}
use Rattle.cpu_lists.specs.Sets.{has, is_among}

-- the least number from here on that passes a test
pub record IsLeastFrom (from : ℕ) (test : ℕ → Bool) (n : ℕ) : Type 0 where
  pub within : from ≤ n
  pub passes : test n ≡ true
  pub before : (k : ℕ) → from ≤ k → k < n → test k ≡ false

-- the least number from 64 on that passes a test, in 64 bits
abbrev pub IsBeyond : (ℕ → Bool) → Option ℕ → Type 0
IsBeyond test None = (k : ℕ) → 64 ≤ k → test k ≡ false
IsBeyond test (Some n) = (first : ℕ) × IsLeastFrom 64 test first × (n ≡ min first (2 ^ 64 - 1))

-- the numbers below 64 that pass a test, and the least of the others
pub record Collects (test : ℕ → Bool) (numbers : Numbers) : Type 0 where
  pub low : (k : ℕ) → k < 64 → has numbers.low k ≡ test k
  pub high : IsBeyond test numbers.high

-- a reader found these numbers, or none where the text has no reading
abbrev pub IsCollected : Option (List ℕ) → Option Numbers → Type 0
IsCollected None found = found ≡ None
IsCollected (Some numbers) found = IsSomeAnd found (λ n. Collects (is_among numbers) n)
