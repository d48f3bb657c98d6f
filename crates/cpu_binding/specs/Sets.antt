-- Sets of CPU numbers, as words: CPU c is in the set where bit c is 1.
use Rattle.std.specs.Prelude.{ℕ, Bool, ◌==◌}
use Rattle.std.specs.Int.{bit_at}

-- whether a set has this CPU
abbrev pub has_cpu : ℕ → ℕ → Bool
has_cpu set cpu = bit_at set cpu == 1
