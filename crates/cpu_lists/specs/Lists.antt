-- The CPUs that a list text names.
use Rattle.std.specs.Prelude.{ℕ, ◌+◌, ◌-◌, ◌^◌, Bool, ◌==◌, ◌&&◌, nat_le, List, [], ◌∷◌, Option, Some, None, if◌then◌else◌}
use Rattle.std.specs.Option.{option_and_then, option_map}
use Rattle.std.specs.List.{list_any, slice_split, before_first, after_first, range_with_len, flat_map}
use Rattle.num_text.specs.Signs.{dash}
use Rattle.num_text.specs.Numbers.{dec_of, below}
use Rattle.cpu_lists.specs.declared.runs.Run.{Run}
use Rattle.cpu_lists.specs.Masks.{comma, each}

-- a decimal number of 64 bits
abbrev pub number : List ℕ → Option ℕ
number text = below (2 ^ 64) (dec_of text)

-- the run from one number to another that is not below it
abbrev pub run_between : ℕ → ℕ → Option Run
run_between a b = if nat_le a b then Some (record { first = a; last = b }) else None

-- an element is `a`, or `a-b` with a at most b
abbrev pub run_of : List ℕ → Option Run
run_of piece =
    if list_any dash piece then option_and_then (λ a. option_and_then (run_between a) (number (after_first dash piece))) (number (before_first dash piece))
    else option_map (λ a. record { first = a; last = a }) (number piece)

-- (For proofs.) whether a number is from the first to the last
abbrev pub is_within : Run → ℕ → Bool
is_within run n = nat_le run.first n && nat_le n run.last

-- the numbers from the first to the last
abbrev pub numbers_in : Run → List ℕ
numbers_in run = range_with_len run.first (run.last + 1 - run.first)

-- nothing for no CPU, or elements separated by commas, in any order and overlapping or not
unfoldable pub list_cpus : List ℕ → Option (List ℕ)
list_cpus [] = Some []
list_cpus (b ∷ bs) = option_map (flat_map numbers_in) (each run_of (slice_split comma (b ∷ bs)))
