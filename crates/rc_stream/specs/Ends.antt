-- How often a source met its end.
use Rattle.std.specs.Prelude.{◌≡◌, ℕ, ◌+◌, ◌-◌, ◌^◌, ◌<◌, ◌⊎◌, List, length, min, Result, OnErr, IfOk}

-- The count rises by one at an end, which is no bytes into room for some, and stays at each other answer. It stands still at 2^64 - 1.
pub record CountsEnds {E : Type 0} (before now : ℕ) (result : Result ℕ E) (into : List ℕ) : Type 0 where
  pub end : IfOk result (λ n. n ≡ 0 → 0 < length into → now ≡ min (before + 1) (2 ^ 64 - 1))
  pub other : IfOk result (λ n. 0 < n ⊎ length into ≡ 0 → now ≡ before)
  pub failed : OnErr result (now ≡ before)
