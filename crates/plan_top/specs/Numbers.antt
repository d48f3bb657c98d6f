-- The numbers that words are.
use Rattle.std.specs.Prelude.{ℕ, ◌+◌, ◌==◌, if◌then◌else◌, List, Option, Some, None}
use Rattle.std.specs.Option.{option_and_then}
use Rattle.num_text.specs.Numbers.{below, dec_of}
use Rattle.plan_top.specs.declared.limits.TheConstants.{MOST_SETS, MOST_WAYS}

-- a number of sets: from 1 to the most, in decimal digits
abbrev pub sets_in : List ℕ → Option ℕ
sets_in text = option_and_then (λ n. if n == 0 then None else Some n) (below (MOST_SETS + 1) (dec_of text))

-- a number of ways: from 1 to the most, in decimal digits
abbrev pub ways_in : List ℕ → Option ℕ
ways_in text = option_and_then (λ n. if n == 0 then None else Some n) (below (MOST_WAYS + 1) (dec_of text))
